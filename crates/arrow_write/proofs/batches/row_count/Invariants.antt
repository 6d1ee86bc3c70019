use Rattle.std.proofs.Common.{◌≡◌, take}
use Rattle.arrow_write.specs.Cut.{rows_in}
use Rattle.arrow_write.proofs.batches.row_count.Given as goal

abbrev pub invariant-loop-batch : goal.invariant-loop-batch
invariant-loop-batch l = l.rows ≡ rows_in (take l.batch-index l.batches)
