-- The builder keeps its type.
use Rattle.std.proofs.Common.{◌≡◌}
use Rattle.sub_query_tests.specs.declared.trees.TheConstants.{NUMBER}
use Rattle.sub_query_tests.proofs.batches.numbers.Given as goal

abbrev pub invariant-loop-number : goal.invariant-loop-number
invariant-loop-number l = l.builder.ty ≡ NUMBER
