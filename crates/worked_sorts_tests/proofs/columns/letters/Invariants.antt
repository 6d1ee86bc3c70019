-- The builder keeps its type.
use Rattle.std.proofs.Common.{◌≡◌}
use Rattle.worked_sorts_tests.specs.declared.columns.TheConstants.{BINARY}
use Rattle.worked_sorts_tests.proofs.columns.letters.Given as goal

abbrev pub invariant-loop-value : goal.invariant-loop-value
invariant-loop-value l = l.builder.ty ≡ BINARY
