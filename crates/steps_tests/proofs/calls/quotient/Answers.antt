use Rattle.std.proofs.Common.{sym, subst}
use Rattle.steps_tests.specs.Typed.{number, IsOver}
use Rattle.steps_tests.proofs.CallLaws.{quotient_is}
use Rattle.steps_tests.proofs.calls.quotient.Goals as goal

pub returns : goal.returns
returns c = subst (IsOver number) (sym c.in_ok-expr.ensures) (quotient_is c.args.a c.args.b c.requires.a c.requires.b)
