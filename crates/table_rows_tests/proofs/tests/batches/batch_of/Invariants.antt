use Rattle.std.proofs.Common.{◌≡◌, length, take}
use Rattle.std.specs.List.{All}
use Rattle.batch.specs.Column.{column_values}
use Rattle.table_rows_tests.proofs.tests.batches.batch_of.Given as goal

abbrev pub invariant-loop-column : goal.invariant-loop-column
invariant-loop-column l = All (λ column. length (column_values column) ≡ l.rows) (take l.column-index l.column-items)
