use Rattle.std.proofs.Common.{All}
use Rattle.well_typed.specs.WellTyped.{IsSetMeasureOver}
use Rattle.aggregate_tests.specs.Typed.{numbers}
use Rattle.aggregate_tests.proofs.plans.random_set_measures.Given as goal

abbrev pub invariant-loop : goal.invariant-loop
invariant-loop l = All (IsSetMeasureOver numbers) l.measures.items
