use Rattle.std.proofs.Common.{sym, subst}
use Rattle.steps_tests.specs.Typed.{number, IsOver}
use Rattle.steps_tests.proofs.CallLaws.{choice_is}
use Rattle.steps_tests.proofs.calls.choice.Goals as goal

pub returns : goal.returns
returns c = subst (IsOver number) (sym c.in_ok-expr.ensures) (choice_is c.args.condition c.args.value c.args.other c.requires.condition c.requires.value c.requires.other)
