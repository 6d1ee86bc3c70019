use Rattle.std.proofs.Common.{sym, subst}
use Rattle.eval_batch_tests.specs.Typed.{truth, IsOver}
use Rattle.eval_batch_tests.proofs.ChoiceLaws.{among_is}
use Rattle.eval_batch_tests.proofs.choices.among.Goals as goal

pub returns : goal.returns
returns c = subst (IsOver truth) (sym c.in_ok-expr.ensures) (among_is c.args.value c.args.a c.args.b c.requires.value c.requires.a c.requires.b)
