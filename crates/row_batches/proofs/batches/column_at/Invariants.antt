use Rattle.std.proofs.Common.{◌≡◌, map, take}
use Rattle.row_batches.specs.Parts.{value_in}
use Rattle.row_batches.proofs.batches.column_at.Given as goal

-- the values of the rows so far
abbrev pub invariant-loop-row : goal.invariant-loop-row
invariant-loop-row l = record {
  values : l.builder.values ≡ map (value_in l.index) (take l.row-index l.rows);
  ty : l.builder.ty ≡ l.fn.ty;
}
