use Rattle.std.proofs.Common.{All}
use Rattle.well_typed.specs.WellTyped.{IsMeasureOver}
use Rattle.aggregate_tests.specs.Typed.{numbers}
use Rattle.aggregate_tests.proofs.worked.measures_of.Given as goal

abbrev pub invariant-loop-asked : goal.invariant-loop-asked
invariant-loop-asked l = All (IsMeasureOver numbers) l.measures.items
