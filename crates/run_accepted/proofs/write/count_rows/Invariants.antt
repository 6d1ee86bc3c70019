-- What is left beside the rows so far.
use Rattle.std.proofs.Common.{◌≡◌, ◌+◌, take}
use Rattle.std.specs.List.{sum_by}
use Rattle.run_accepted.specs.Done.{MAX_ROWS}
use Rattle.run_accepted.proofs.write.count_rows.Given as goal

abbrev pub invariant-loop-batch : goal.invariant-loop-batch
invariant-loop-batch l = sum_by (λ batch. batch.rows) (take l.batch-index l.batches) + l.left ≡ MAX_ROWS
