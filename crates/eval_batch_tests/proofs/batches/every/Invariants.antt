use Rattle.std.proofs.Common.{◌≡◌, length}
use Rattle.eval_batch_tests.proofs.batches.every.Given as goal

abbrev pub invariant-loop-row : goal.invariant-loop-row
invariant-loop-row l = length l.taken ≡ l.row
