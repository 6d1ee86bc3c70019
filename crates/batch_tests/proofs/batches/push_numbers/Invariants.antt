-- The builder keeps its type.
use Rattle.std.proofs.Common.{◌≡◌}
use Rattle.batch_tests.specs.declared.batches.TheConstants.{NUMBER}
use Rattle.batch_tests.proofs.batches.push_numbers.Given as goal

abbrev pub invariant-loop-number : goal.invariant-loop-number
invariant-loop-number l = l.builder.ty ≡ NUMBER
