use Rattle.std.proofs.Common.{sym, subst}
use Rattle.steps_tests.specs.Typed.{truth, IsOver}
use Rattle.steps_tests.proofs.CallLaws.{both_is}
use Rattle.steps_tests.proofs.calls.both.Goals as goal

pub returns : goal.returns
returns c = subst (IsOver truth) (sym c.in_ok-expr.ensures) (both_is c.args.a c.args.b c.requires.a c.requires.b)
