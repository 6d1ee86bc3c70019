use Rattle.std.proofs.Common.{◌≡◌, ◌≤◌, map, take}
use Rattle.std.specs.List.{range_with_len}
use Rattle.plan_typed.specs.Types.{ty_of}
use Rattle.batch.specs.Column.{column_type}
use Rattle.batch_nodes.specs.Parts.{AreColumns}
use Rattle.batch_nodes.specs.declared.found.Found.TheVariants as found
use Rattle.row_ops.proofs.projecting.made_of.Given as goal

-- the columns of the expressions so far
abbrev pub invariant-loop-expr : goal.invariant-loop-expr
invariant-loop-expr l = record {
  are : AreColumns (take l.expr-index l.exprs) l.batch (range_with_len 0 l.batch.rows) (map found.Made l.columns.items) l.rows l.stop;
  few : l.rows ≤ l.batch.rows;
  types : map column_type l.columns.items ≡ map ty_of (take l.expr-index l.exprs);
}
