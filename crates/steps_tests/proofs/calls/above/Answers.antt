use Rattle.std.proofs.Common.{sym, subst}
use Rattle.steps_tests.specs.Typed.{truth, IsOver}
use Rattle.steps_tests.proofs.CallLaws.{above_is}
use Rattle.steps_tests.proofs.calls.above.Goals as goal

pub returns : goal.returns
returns c = subst (IsOver truth) (sym c.in_ok-expr.ensures) (above_is c.args.a c.args.b c.requires.a c.requires.b)
