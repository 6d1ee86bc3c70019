-- What all workers have together.
use Rattle.std.proofs.Common.{◌≡◌, ℕ, ◌+◌, ◌<◌, cond, eqb, true, List, [], ◌∷◌, ◌++◌, length, sum_by, All, Any, arith, refl, sym, ap, ◌∙◌}
use Rattle.std.proofs.lemmas.List.{length_push}
use Rattle.std.proofs.lemmas.List.Sums.{sum_by-cons, sum_by_push}
use Rattle.std.proofs.lemmas.List.Elements.{All-push, All-head, All-tail}
use Rattle.run_core.specs.Counts.{times, once_below}
use Rattle.run_core.specs.Receipts.{Lists, total, OffersOwn, FinishesOwn, IsBalanced}
use Rattle.scan_claims.specs.Claims.{ClaimTable, SeatView, IsEachOnce}
use Rattle.hand_off.specs.Hand.{Hand, PassView}
use Rattle.hand_off_tests.specs.Crew.{numbers_of, Shows, AreParts}
use Rattle.hand_off_tests.specs.declared.numbers.Item.{Item}

-- how often a number stands among the numbers of items
pub times_numbers : (x : ℕ) (items : List Item) → times x (numbers_of items) ≡ sum_by (λ (item : Item). cond (eqb item.number x) 1 0) items
times_numbers x [] = refl
times_numbers x (i ∷ is) =
    omega (arith, sum_by-cons (λ (n : ℕ). cond (eqb n x) 1 0) i.number (numbers_of is), sum_by-cons (λ (item : Item). cond (eqb item.number x) 1 0) i is, times_numbers x is)

pub times_numbers_push : (x : ℕ) (items : List Item) (item : Item) → times x (numbers_of (items ++ item ∷ [])) ≡ times x (numbers_of items) + times x (item.number ∷ [])
times_numbers_push x items item =
    let f : Item → ℕ = λ i. cond (eqb i.number x) 1 0 in
    omega (arith, times_numbers x (items ++ item ∷ []), times_numbers x items, times_numbers x (item ∷ []), sum_by_push f items item, sum_by-cons f item [])

sum_by_same : {X : Type 0} (f g : X → ℕ) (xs : List X) → ((x : X) → f x ≡ g x) → sum_by f xs ≡ sum_by g xs
sum_by_same f g [] same = refl
sum_by_same f g (x ∷ xs) same = omega (arith, sum_by-cons f x xs, sum_by-cons g x xs, same x, sum_by_same f g xs same)

-- the parts of one worker more
pub adds_part : (claims : ClaimTable) (hand : Hand) (seats : List SeatView) (passes : List (PassView Item)) (receipts : List Lists) (s : SeatView) (p : PassView Item) (r : Lists)
    → AreParts claims hand seats passes receipts → s.of ≡ claims → s.share ≡ 1 → p.of ≡ hand → p.share ≡ 1 → Shows s p r
    → AreParts claims hand (seats ++ s ∷ []) (passes ++ p ∷ []) (receipts ++ r ∷ [])
adds_part claims hand seats passes receipts s p r k seat_of seat_share pass_of pass_share shows = record {
  seats_of = All-push (λ (t : SeatView). t.of ≡ claims) seats s k.seats_of seat_of;
  seat_shares = omega (arith, k.seat_shares, sum_by_push (λ (t : SeatView). t.share) seats s, length_push seats s);
  ended = All-push (λ (t : SeatView). t.ended ≡ true) seats s k.ended shows.ended;
  passes_of = All-push (λ (q : PassView Item). q.of ≡ hand) passes p k.passes_of pass_of;
  pass_shares = omega (arith, k.pass_shares, sum_by_push (λ (q : PassView Item). q.share) passes p, length_push passes p);
  claimed = λ x. omega (arith, k.claimed x, sum_by_push (λ (l : Lists). times x l.claimed) receipts r, sum_by_push (λ (t : SeatView). times x t.numbers) seats s, ap (times x) shows.claimed);
  offered = λ x. omega (arith, k.offered x, sum_by_push (λ (l : Lists). times x l.offered) receipts r, sum_by_push (λ (q : PassView Item). times x (numbers_of q.offered)) passes p, ap (times x) shows.offered);
  taken = λ x. omega (arith, k.taken x, sum_by_push (λ (l : Lists). times x l.taken) receipts r, sum_by_push (λ (q : PassView Item). times x (numbers_of q.taken)) passes p, ap (times x) shows.taken);
  offers_own = All-push OffersOwn receipts r k.offers_own shows.offers_own;
  finishes_own = All-push FinishesOwn receipts r k.finishes_own shows.finishes_own;
}

-- all workers finished what they took and claimed, but what they offered
all_finish : (x : ℕ) (receipts : List Lists) → All OffersOwn receipts → All FinishesOwn receipts
    → total (λ r. r.finished) x receipts + total (λ r. r.offered) x receipts ≡ total (λ r. r.taken) x receipts + total (λ r. r.claimed) x receipts
all_finish x [] own finish = refl
all_finish x (r ∷ rs) own finish =
    let mine = All-head OffersOwn r rs own x in
    let mine' = All-head FinishesOwn r rs finish x in
    omega (
      arith,
      mine,
      mine',
      all_finish x rs (All-tail OffersOwn r rs own) (All-tail FinishesOwn r rs finish),
      sum_by-cons (λ (l : Lists). times x l.finished) r rs,
      sum_by-cons (λ (l : Lists). times x l.offered) r rs,
      sum_by-cons (λ (l : Lists). times x l.taken) r rs,
      sum_by-cons (λ (l : Lists). times x l.claimed) r rs,
    )

pub some_ended : (seats : List SeatView) → 0 < length seats → All (λ s. s.ended ≡ true) seats → Any (λ s. s.ended ≡ true) seats
some_ended [] some all = absurd (omega arith)
some_ended (s ∷ ss) some all = (0, s, omega arith, refl, all 0 s (omega arith))

-- the parts of workers that met the end, with what the claims and the hand-off tell at their end
pub balanced_parts : (n : ℕ) (claims : ClaimTable) (hand : Hand) (seats : List SeatView) (passes : List (PassView Item)) (receipts : List Lists) (drawn : List ℕ) (offered taken : List Item) (left : List ℕ)
    → AreParts claims hand seats passes receipts
    → ((x : ℕ) → times x drawn ≡ sum_by (λ s. times x s.numbers) seats) → IsEachOnce n drawn
    → ((f : Item → ℕ) → sum_by f offered ≡ sum_by (λ p. sum_by f p.offered) passes) → ((f : Item → ℕ) → sum_by f taken ≡ sum_by (λ p. sum_by f p.taken) passes)
    → ((x : ℕ) → times x (numbers_of offered) ≡ times x (numbers_of taken) + times x left)
    → IsBalanced n receipts left
balanced_parts n claims hand seats passes receipts drawn offered taken left k drew whole offers takes rest =
    let claimed : (x : ℕ) → total (λ r. r.claimed) x receipts ≡ once_below x n = λ x. k.claimed x ∙ sym (drew x) ∙ whole x in
    let all_offered : (x : ℕ) → total (λ r. r.offered) x receipts ≡ times x (numbers_of offered) = λ x.
    k.offered x ∙ sum_by_same (λ (p : PassView Item). times x (numbers_of p.offered)) (λ p. sum_by (λ item. cond (eqb item.number x) 1 0) p.offered) passes (λ p. times_numbers x p.offered)
    ∙ sym (offers (λ item. cond (eqb item.number x) 1 0)) ∙ sym (times_numbers x offered) in
    let all_taken : (x : ℕ) → total (λ r. r.taken) x receipts ≡ times x (numbers_of taken) = λ x.
    k.taken x ∙ sum_by_same (λ (p : PassView Item). times x (numbers_of p.taken)) (λ p. sum_by (λ item. cond (eqb item.number x) 1 0) p.taken) passes (λ p. times_numbers x p.taken)
    ∙ sym (takes (λ item. cond (eqb item.number x) 1 0)) ∙ sym (times_numbers x taken) in
    record {
      claimed_once = claimed;
      passed_on = λ x. omega (arith, all_offered x, all_taken x, rest x);
      offers_own = k.offers_own;
      finishes_own = k.finishes_own;
      finished_once = λ x. omega (arith, all_finish x receipts k.offers_own k.finishes_own, claimed x, all_offered x, all_taken x, rest x);
    }
