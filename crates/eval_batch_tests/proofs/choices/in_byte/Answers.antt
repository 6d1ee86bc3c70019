use Rattle.std.proofs.Common.{sym, subst}
use Rattle.eval_batch_tests.specs.Typed.{byte, IsOver}
use Rattle.eval_batch_tests.proofs.ChoiceLaws.{in_byte_is}
use Rattle.eval_batch_tests.proofs.choices.in_byte.Goals as goal

pub returns : goal.returns
returns c = subst (IsOver byte) (sym c.in_ok-expr.ensures) (in_byte_is c.args.input c.args.null_on_fail c.requires)
