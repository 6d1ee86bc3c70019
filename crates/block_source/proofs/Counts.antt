-- Numbers that stand as often in two lists add up alike.
use Rattle.std.proofs.Common.{◌≡◌, ◌≢◌, ℕ, zero, suc, ◌+◌, ◌<◌, ◌≤◌, true, false, cond, eqb, List, [], ◌∷◌, sum_by, Contains, length, get_or, remove, arith, refl, sym, ap, ◌∙◌, ⊎_elim}
use Rattle.std.specs.List.{range_with_len}
use Rattle.std.proofs.lemmas.Bool.{lt-ltb, le-ltb, cases_lt}
use Rattle.std.proofs.lemmas.Bool.Decides.{eqb_tells}
use Rattle.std.proofs.lemmas.List.Sums.{sum_by-cons}
use Rattle.std.proofs.lemmas.List.Sorted.{IsPermutation-remove, sum_by-IsPermutation}
use Rattle.std.proofs.lemmas.List.Elements.{Contains-append_right}
use Rattle.run_core.specs.Counts.{times, once_below}

step : (x y : ℕ) (ys : List ℕ) → times x (y ∷ ys) ≡ cond (eqb y x) 1 0 + times x ys
step x y ys = sum_by-cons (λ z. cond (eqb z x) 1 0) y ys

step_same : (x y : ℕ) (ys : List ℕ) → y ≡ x → times x (y ∷ ys) ≡ 1 + times x ys
step_same x y ys same =
    ⊎_elim (λ (t : (eqb y x ≡ true) × (y ≡ x)). step x y ys ∙ ap (λ b. cond b 1 0 + times x ys) t.0) (λ (t : (eqb y x ≡ false) × (y ≢ x)). absurd (t.1 same)) (eqb_tells y x)

step_other : (x y : ℕ) (ys : List ℕ) → y ≢ x → times x (y ∷ ys) ≡ times x ys
step_other x y ys other =
    ⊎_elim (λ (t : (eqb y x ≡ true) × (y ≡ x)). absurd (other t.1)) (λ (t : (eqb y x ≡ false) × (y ≢ x)). let e = ap (λ b. cond b 1 0 + times x ys) t.0 in omega (arith, step x y ys, e)) (eqb_tells y x)

found : (x : ℕ) (ys : List ℕ) → 1 ≤ times x ys → Contains ys x
found x [] some = absurd (omega (arith, some))
found x (y ∷ ys) some =
    ⊎_elim
    (λ (t : (eqb y x ≡ true) × (y ≡ x)). (0, omega arith, t.1))
    (λ (t : (eqb y x ≡ false) × (y ≢ x)). Contains-append_right (y ∷ []) ys x (found x ys (omega (arith, some, step_other x y ys t.1))))
    (eqb_tells y x)

-- the other list with one element less
without : (y : ℕ) (xs : List ℕ) (i : ℕ) → i < length xs → y ≡ get_or xs i y → (g : ℕ → ℕ) → sum_by g xs ≡ g y + sum_by g (remove xs i)
without y xs i below is g = sym (sum_by-IsPermutation g _ _ (IsPermutation-remove xs i y below is)) ∙ sum_by-cons g y (remove xs i)

pub sums_alike : (g : ℕ → ℕ) (ys xs : List ℕ) → ((x : ℕ) → times x xs ≡ times x ys) → sum_by g xs ≡ sum_by g ys
sums_alike g [] [] alike = refl
sums_alike g [] (x ∷ xs) alike = absurd (omega (arith, alike x, step_same x x xs refl))
sums_alike g (y ∷ ys) xs alike =
    let c = found y xs (omega (arith, alike y, step_same y y ys refl)) in
    let less = without y xs c.0 c.1 (sym c.2) in
    let rest = sums_alike g ys (remove xs c.0) (λ x. let e = less (λ z. cond (eqb z x) 1 0) in omega (arith, e, alike x, step x y ys)) in
    omega (arith, less g, rest, sum_by-cons g y ys)

-- from a number on, each of the next n numbers stands once in their range
range_none : (x n from : ℕ) → x < from → times x (range_with_len from n) ≡ 0
range_none x zero from below = refl
range_none x (suc n) from below = step_other x from (range_with_len (from + 1) n) (λ e. absurd (omega (arith, e, below))) ∙ range_none x n (from + 1) (omega (arith, below))

range_past : (x n from : ℕ) → from + n ≤ x → times x (range_with_len from n) ≡ 0
range_past x zero from past = refl
range_past x (suc n) from past = step_other x from (range_with_len (from + 1) n) (λ e. absurd (omega (arith, e, past))) ∙ range_past x n (from + 1) (omega (arith, past))

range_once : (x n from : ℕ) → from ≤ x → x < from + n → times x (range_with_len from n) ≡ 1
range_once x zero from low high = absurd (omega (arith, low, high))
range_once x (suc n) from low high =
    ⊎_elim
    (λ (t : (eqb from x ≡ true) × (from ≡ x)). omega (arith, step_same x from (range_with_len (from + 1) n) t.1, range_none x n (from + 1) (omega (arith, t.1))))
    (λ (t : (eqb from x ≡ false) × (from ≢ x)). step_other x from (range_with_len (from + 1) n) t.1 ∙ range_once x n (from + 1) (omega (arith, low, t.1)) (omega (arith, high)))
    (eqb_tells from x)

times_range : (x n : ℕ) → times x (range_with_len 0 n) ≡ once_below x n
times_range x n =
    ⊎_elim
    (λ (b : x < n). range_once x n 0 (omega arith) (omega (arith, b)) ∙ sym (ap (λ b. cond b 1 0) (lt-ltb x n b)))
    (λ (b : n ≤ x). range_past x n 0 (omega (arith, b)) ∙ sym (ap (λ b. cond b 1 0) (le-ltb x n b)))
    (cases_lt x n)

-- numbers that stand once each below n add up as those from 0 on
pub sums_once : (g : ℕ → ℕ) (n : ℕ) (xs : List ℕ) → ((x : ℕ) → times x xs ≡ once_below x n) → sum_by g xs ≡ sum_by g (range_with_len 0 n)
sums_once g n xs once = sums_alike g (range_with_len 0 n) xs (λ x. once x ∙ sym (times_range x n))
