-- Numbers that rise and stand once each in a range are the range.
use Rattle.std.proofs.Common.{◌≡◌, ◌≢◌, ℕ, zero, suc, ◌+◌, ◌<◌, ◌≤◌, true, false, cond, eqb, List, [], ◌∷◌, All, arith, refl, sym, ap, ◌∙◌, ◌⊎◌, ⊎_elim}
use Rattle.std.specs.List.{range_with_len}
use Rattle.std.specs.List.Sorted.{IsNonDecreasingBy}
use Rattle.std.proofs.lemmas.Bool.{lt-ltb, le-ltb, cases_lt}
use Rattle.std.proofs.lemmas.Bool.Decides.{eqb_tells}
use Rattle.std.proofs.lemmas.List.Sums.{sum_by-cons}
use Rattle.std.proofs.lemmas.List.Elements.{All-head, All-tail}
use Rattle.run_core.specs.Counts.{times, once_below}

step : (x y : ℕ) (ys : List ℕ) → times x (y ∷ ys) ≡ cond (eqb y x) 1 0 + times x ys
step x y ys = sum_by-cons (λ z. cond (eqb z x) 1 0) y ys

step_same : (x y : ℕ) (ys : List ℕ) → y ≡ x → times x (y ∷ ys) ≡ 1 + times x ys
step_same x y ys same =
    ⊎_elim (λ (t : (eqb y x ≡ true) × (y ≡ x)). step x y ys ∙ ap (λ b. cond b 1 0 + times x ys) t.0) (λ (t : (eqb y x ≡ false) × (y ≢ x)). absurd (t.1 same)) (eqb_tells y x)

step_other : (x y : ℕ) (ys : List ℕ) → y ≢ x → times x (y ∷ ys) ≡ times x ys
step_other x y ys other =
    ⊎_elim (λ (t : (eqb y x ≡ true) × (y ≡ x)). absurd (other t.1)) (λ (t : (eqb y x ≡ false) × (y ≢ x)). let e = ap (λ b. cond b 1 0 + times x ys) t.0 in omega (arith, step x y ys, e)) (eqb_tells y x)

step_le : (x y : ℕ) (ys : List ℕ) → times x ys ≤ times x (y ∷ ys)
step_le x y ys = omega (arith, step x y ys)

none_below : (x least : ℕ) (ys : List ℕ) → x < least → All (λ y. least ≤ y) ys → times x ys ≡ 0
none_below x least [] below all = refl
none_below x least (y ∷ ys) below all =
    let head = All-head (λ z. least ≤ z) y ys all in
    step_other x y ys (λ e. absurd (omega (arith, e, head, below))) ∙ none_below x least ys below (All-tail (λ z. least ≤ z) y ys all)

least_first : (y : ℕ) (ys : List ℕ) → IsNonDecreasingBy (λ x. x) (y ∷ ys) → All (λ z. y ≤ z) (y ∷ ys)
least_first y ys rises k d below = rises 0 k d (omega arith) below

rest_rises : (y : ℕ) (ys : List ℕ) → IsNonDecreasingBy (λ x. x) (y ∷ ys) → IsNonDecreasingBy (λ x. x) ys
rest_rises y ys rises i j d le below = rises (suc i) (suc j) d (omega (arith, le)) (omega (arith, below))

-- from a number on, each of the next n numbers stands once, and no other does
record Window (from n : ℕ) (xs : List ℕ) : Type 0 where
  inside : (x : ℕ) → from ≤ x → x < from + n → times x xs ≡ 1
  below : (x : ℕ) → x < from → times x xs ≡ 0
  above : (x : ℕ) → from + n ≤ x → times x xs ≡ 0

first_is : (from n y : ℕ) (ys : List ℕ) → IsNonDecreasingBy (λ x. x) (y ∷ ys) → Window from (suc n) (y ∷ ys) → y ≡ from
first_is from n y ys rises w =
    let least = least_first y ys rises in
    let here = step_same y y ys refl in
    let not_above : from < y → ⊥ = λ above. absurd (omega (arith, none_below from y (y ∷ ys) above least, w.inside from (omega arith) (omega arith))) in
    let not_below : y < from → ⊥ = λ below. absurd (omega (arith, here, w.below y below)) in
    omega (arith, not_above, not_below)

rest_window : (from n y : ℕ) (ys : List ℕ) → y ≡ from → Window from (suc n) (y ∷ ys) → Window (from + 1) n ys
rest_window from n y ys is w = record {
  inside = λ x low high. sym (step_other x y ys (λ e. absurd (omega (arith, e, is, low)))) ∙ w.inside x (omega (arith, low)) (omega (arith, high));
  below = λ x low.
      let here = step_same y y ys refl in
      let all = w.inside y (omega (arith, is)) (omega (arith, is)) in
      ⊎_elim
      (λ (b : x < from). let none = w.below x b in omega (arith, none, step_le x y ys))
      (λ (b : from ≤ x). let e : x ≡ y = omega (arith, b, low, is) in ap (λ z. times z ys) e ∙ omega (arith, here, all))
      (cases_lt x from);
  above = λ x high. let none = w.above x (omega (arith, high)) in omega (arith, none, step_le x y ys);
}

window_is : (n from : ℕ) (xs : List ℕ) → IsNonDecreasingBy (λ x. x) xs → Window from n xs → xs ≡ range_with_len from n
window_is zero from [] rises w = refl
window_is zero from (y ∷ ys) rises w =
    let here = step_same y y ys refl in
    let low : y < from → ⊥ = λ b. absurd (omega (arith, here, w.below y b)) in
    let high : from ≤ y → ⊥ = λ b. absurd (omega (arith, here, w.above y (omega (arith, b)))) in
    absurd (omega (arith, low, high))
window_is (suc n) from [] rises w = absurd (omega (arith, w.inside from (omega arith) (omega arith)))
window_is (suc n) from (y ∷ ys) rises w =
    let is = first_is from n y ys rises w in
    λ i. is i ∷ window_is n (from + 1) ys (rest_rises y ys rises) (rest_window from n y ys is w) i

in_range : (x n : ℕ) → x < n → once_below x n ≡ 1
in_range x n low = ap (λ b. cond b 1 0) (lt-ltb x n low)

past_range : (x n : ℕ) → n ≤ x → once_below x n ≡ 0
past_range x n high = ap (λ b. cond b 1 0) (le-ltb x n high)

-- numbers that rise, each below n once
pub range_is : (n : ℕ) (xs : List ℕ) → IsNonDecreasingBy (λ x. x) xs → ((x : ℕ) → times x xs ≡ once_below x n) → xs ≡ range_with_len 0 n
range_is n xs rises once =
    window_is n 0 xs rises record {
      inside = λ x low high. once x ∙ in_range x n (omega (arith, high));
      below = λ x low. absurd (omega (arith, low));
      above = λ x high. once x ∙ past_range x n (omega (arith, high));
    }
