-- The builder keeps its type.
use Rattle.std.proofs.Common.{◌≡◌}
use Rattle.worked_sorts_tests.specs.declared.columns.TheConstants.{NUMBER}
use Rattle.worked_sorts_tests.proofs.columns.numbers.Given as goal

abbrev pub invariant-loop-value : goal.invariant-loop-value
invariant-loop-value l = l.builder.ty ≡ NUMBER
