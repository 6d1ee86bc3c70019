use Rattle.std.proofs.Common.{sym, subst}
use Rattle.well_typed.specs.WellTyped.{IsConditionOver}
use Rattle.pipe_round_tests.specs.Steps.{sides}
use Rattle.pipe_round_tests.proofs.RestLaws.{above_is}
use Rattle.pipe_round_tests.proofs.rests.quotient_above.Goals as goal

pub returns : goal.returns
returns c = subst (IsConditionOver sides) (sym c.in_ok-expr.ensures) (above_is c.in_ok-quotient.quotient c.zero.result c.in_ok-quotient.ensures c.zero.ensures)
