-- The builder keeps its type.
use Rattle.std.proofs.Common.{◌≡◌}
use Rattle.row_keys_tests.specs.declared.batches.TheConstants.{NUMBER}
use Rattle.row_keys_tests.proofs.batches.numbers.Given as goal

abbrev pub invariant-loop-number : goal.invariant-loop-number
invariant-loop-number l = l.builder.ty ≡ NUMBER
