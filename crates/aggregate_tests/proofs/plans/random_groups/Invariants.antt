use Rattle.std.proofs.Common.{All}
use Rattle.well_typed.specs.ExprTyped.{IsTypedOver}
use Rattle.aggregate_tests.specs.Typed.{numbers}
use Rattle.aggregate_tests.proofs.plans.random_groups.Given as goal

abbrev pub invariant-loop : goal.invariant-loop
invariant-loop l = All (IsTypedOver numbers) l.groups.items
