use Rattle.std.proofs.Common.{sym, subst}
use Rattle.well_typed.specs.WellTyped.{IsConditionOver}
use Rattle.hash_join_tests.specs.Typed.{sides}
use Rattle.hash_join_tests.proofs.TypedLaws.{above_is}
use Rattle.hash_join_tests.proofs.calls.above.Goals as goal

pub returns : goal.returns
returns c = subst (IsConditionOver sides) (sym c.in_ok-expr.ensures) (above_is c.args.first c.args.second c.requires.first c.requires.second)
