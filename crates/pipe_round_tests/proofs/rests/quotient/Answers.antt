use Rattle.std.proofs.Common.{sym, subst}
use Rattle.pipe_round_tests.specs.Rests.{IsTyped}
use Rattle.pipe_round_tests.specs.Steps.{number}
use Rattle.pipe_round_tests.proofs.RestLaws.{quotient_is}
use Rattle.pipe_round_tests.proofs.rests.quotient.Goals as goal

pub returns : goal.returns
returns c = subst (IsTyped number) (sym c.in_ok-expr.ensures) (quotient_is c.left.result c.right.result c.left.ensures c.right.ensures)
