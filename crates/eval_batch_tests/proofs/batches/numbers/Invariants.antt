use Rattle.std.proofs.Common.{◌≡◌}
use Rattle.eval_batch_tests.specs.Typed.{number}
use Rattle.eval_batch_tests.proofs.batches.numbers.Given as goal

abbrev pub invariant-loop-row : goal.invariant-loop-row
invariant-loop-row l = l.builder.ty ≡ number
