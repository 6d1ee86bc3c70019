use Rattle.row_batches.proofs.ColumnLaws.{MadeColumns}
use Rattle.row_batches.proofs.batches.rows_to_batch.Given as goal

-- the columns so far
abbrev pub invariant-loop-index : goal.invariant-loop-index
invariant-loop-index l = MadeColumns l.types l.rows l.columns.items l.index
