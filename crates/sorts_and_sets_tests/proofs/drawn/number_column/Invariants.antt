-- The builder keeps its type.
use Rattle.std.proofs.Common.{◌≡◌}
use Rattle.sorts_and_sets_tests.specs.declared.drawn.TheConstants.{NUMBER}
use Rattle.sorts_and_sets_tests.proofs.drawn.number_column.Given as goal

abbrev pub invariant-loop-row : goal.invariant-loop-row
invariant-loop-row l = l.builder.ty ≡ NUMBER
