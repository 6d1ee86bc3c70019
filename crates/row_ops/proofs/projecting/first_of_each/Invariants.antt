use Rattle.std.proofs.Common.{◌≡◌, ◌++◌, ◌≤◌, map, length}
use Rattle.std.specs.List.{All}
use Rattle.std.specs.Vec.Iter.{into_iter_items}
use Rattle.batch.specs.declared.column.Column.{Column}
use Rattle.batch.specs.ColumnValues.{values_of}
use Rattle.row_ops.specs.Behind.{first_shown}
use Rattle.row_ops.specs.Kept.{shown}
use Rattle.row_ops.proofs.projecting.first_of_each.Given as goal

-- the columns so far and the first rows of those that are left
abbrev pub invariant-loop-column : goal.invariant-loop-column
invariant-loop-column l =
    (map shown l.first.items ++ map (first_shown l.fn.rows) (into_iter_items l.column-iterator) ≡ map (first_shown l.fn.rows) l.fn.columns.items)
    × All (λ (column : Column). l.fn.rows ≤ length (values_of column.values)) (into_iter_items l.column-iterator)
