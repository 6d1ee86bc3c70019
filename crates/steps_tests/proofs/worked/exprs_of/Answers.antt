use Rattle.std.proofs.Common.{All, sym, subst}
use Rattle.std.proofs.lemmas.List.Elements.{All-push}
use Rattle.steps_tests.specs.Typed.{number, IsOver}
use Rattle.steps_tests.proofs.worked.exprs_of.Goals as goal

pub loop-word-preserved : goal.loop-word-preserved
loop-word-preserved c = record {
  next = tt;
  ends = tt;
  typed = subst (All (IsOver number)) (sym c.in_ok-push.ensures.items) (All-push (IsOver number) c.loop-word.exprs.items c.in_ok-number_of.field-0 c.loop-word.invariant.typed c.in_ok-number_of.ensures);
}
