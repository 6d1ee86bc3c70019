use Rattle.std.proofs.Common.{sym, subst}
use Rattle.well_typed.specs.WellTyped.{IsConditionOver}
use Rattle.pipe_round_tests.specs.Steps.{sides}
use Rattle.pipe_round_tests.proofs.RestLaws.{under_is}
use Rattle.pipe_round_tests.proofs.rests.under.Goals as goal

pub returns : goal.returns
returns c = subst (IsConditionOver sides) (sym c.in_ok-expr.ensures) (under_is c.left.result c.right.result c.left.ensures c.right.ensures)
