use Rattle.std.proofs.Common.{All, sym, subst}
use Rattle.std.proofs.lemmas.List.Elements.{All-push}
use Rattle.steps_tests.specs.Typed.{number, IsOver}
use Rattle.steps_tests.proofs.exprs.random_numbers.Goals as goal

pub loop-preserved : goal.loop-preserved
loop-preserved c = subst (All (IsOver number)) (sym c.in_ok-push.ensures.items) (All-push (IsOver number) c.loop.exprs.items c.in_ok-random_number.field-0 c.loop.invariant c.in_ok-random_number.ensures)
