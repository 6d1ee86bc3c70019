use Rattle.std.proofs.Common.{ℕ, cond, eqb, List, arith, ap, ◌∙◌, ◌∷◌, []}
use Rattle.run_core.specs.Counts.{times}
use Rattle.run_core.proofs.Counting.{times_push}
use Rattle.hand_off_tests.specs.Crew.{numbers_of}
use Rattle.hand_off_tests.specs.declared.numbers.Item.{Item}
use Rattle.hand_off_tests.proofs.Together.{times_numbers, times_numbers_push}
use Rattle.hand_off_tests.proofs.run.numbers_left.Goals as goal

pub returns-in_default : goal.returns-in_default
returns-in_default g c = λ x.
    let same = c.in_default.ensures.all (λ (item : Item). cond (eqb item.number x) 1 0) in
    omega (arith, same, times_numbers x c.loop.rest.offered, times_numbers x c.loop.rest.taken, ap (λ (items : List Item). times x (numbers_of items)) c.loop.invariant.offered, c.loop.invariant.given x)

pub loop-preserved : goal.loop-preserved
loop-preserved g c =
    let e = c.in-Some-next.ensures in
    let item = c.in-Some-next.item in
    record {
      runs = (tt, tt);
      offered = e.offered ∙ c.loop.invariant.offered;
      given = λ x. omega (arith, c.loop.invariant.given x, ap (λ (items : List Item). times x (numbers_of items)) e.given, times_numbers_push x c.loop.rest.taken item, ap (times x) c.in_ok-push.ensures.items, times_push x c.loop.left.items c.number.result, ap (λ (n : ℕ). times x (n ∷ [])) c.number.ensures);
    }
