-- Lists of values that may be missing, and lists by their places.
use Rattle.std.proofs.Common.{◌≡◌, ◌∙◌, ℕ, zero, suc, ◌+◌, ◌<◌, List, [], ◌∷◌, ◌++◌, Option, Some, length, get_or, map, refl, sym, ap, arith, add-zero}
use Rattle.std.specs.List.{range_with_len, slice_get}
use Rattle.sub_types.specs.OptionSteps.{all_of}

-- all that are there, one by one
pub all_of_places : {A : Type 0} (f : ℕ → Option A) (start : ℕ) (xs : List A) → ((k : ℕ) (d : A) → k < length xs → f (start + k) ≡ Some (get_or xs k d))
    → all_of (map f (range_with_len start (length xs))) ≡ Some xs
all_of_places f start [] each = refl
all_of_places f start (x ∷ xs) each =
    let first : f start ≡ Some x = ap f (sym (add-zero start)) ∙ each 0 x (omega arith) in
    let others = all_of_places f (start + 1) xs (λ k d below. let place : start + 1 + k ≡ start + suc k = omega arith in ap f place ∙ each (suc k) d (omega arith)) in
    rw (first, others) refl

-- an element behind others
pub slice_get_at : {A : Type 0} (front : List A) (x : A) (back : List A) (i : ℕ) → length front ≡ i → slice_get (front ++ x ∷ back) i ≡ Some x
slice_get_at [] x back zero long = refl
slice_get_at [] x back (suc i) long = absurd (omega arith)
slice_get_at (y ∷ front) x back zero long = absurd (omega arith)
slice_get_at (y ∷ front) x back (suc i) long = slice_get_at front x back i (omega arith)
