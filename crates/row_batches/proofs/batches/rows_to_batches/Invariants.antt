use Rattle.row_batches.proofs.MadeLaws.{MadeBatches}
use Rattle.row_batches.proofs.batches.rows_to_batches.Given as goal

-- the batches so far
abbrev pub invariant-loop-number : goal.invariant-loop-number
invariant-loop-number l = MadeBatches l.types l.rows l.batches.items l.number
