use Rattle.std.proofs.Common.{sym, subst}
use Rattle.well_typed.specs.WellTyped.{IsConditionOver}
use Rattle.aggregate_tests.specs.Typed.{numbers}
use Rattle.aggregate_tests.proofs.TypedLaws.{above_is}
use Rattle.aggregate_tests.proofs.calls.above.Goals as goal

pub returns : goal.returns
returns c = subst (IsConditionOver numbers) (sym c.in_ok-expr.ensures) (above_is c.args.a c.args.b c.requires.a c.requires.b)
