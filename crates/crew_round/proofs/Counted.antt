-- Sums and facts over lists that were mapped, reversed or joined.
use Rattle.std.proofs.Common.{◌≡◌, ℕ, ◌<◌, cond, eqb, List, [], ◌∷◌, length, map, reverse, sum_by, All, Any, Contains, arith, refl, sym, ap, subst, ◌∙◌, ◌⊎◌, ⊎_elim, get_or}
use Rattle.std.specs.List.{flat_map}
use Rattle.std.proofs.lemmas.List.{get_or-map, length-map}
use Rattle.std.proofs.lemmas.List.Sums.{sum_by-cons}
use Rattle.std.proofs.lemmas.List.Elements.{All-nil, All-append, All-head, All-tail, All-map, Contains-append_left, Contains-append_right, Contains-append_cases, Contains-push_cases}
use Rattle.std.proofs.lemmas.List.Sorted.{IsPermutation-reverse, All-permutation, Contains-permutation, sum_by-IsPermutation}
use Rattle.run_core.specs.Counts.{times}
use Rattle.hand_off.proofs.Bags.{bag-flat_map}

module _ {X : Type 0} where
  -- how often a number stands among the numbers of some values
  pub times_map : (number : X → ℕ) (x : ℕ) (xs : List X) → times x (map number xs) ≡ sum_by (λ y. cond (eqb (number y) x) 1 0) xs
  times_map number x [] = refl
  times_map number x (y ∷ ys) =
      omega (arith, sum_by-cons (λ n. cond (eqb n x) 1 0) (number y) (map number ys), sum_by-cons (λ z. cond (eqb (number z) x) 1 0) y ys, times_map number x ys)

  pub sum_same : (f g : X → ℕ) (xs : List X) → All (λ x. f x ≡ g x) xs → sum_by f xs ≡ sum_by g xs
  sum_same f g [] same = refl
  sum_same f g (x ∷ xs) same =
      omega (arith, sum_by-cons f x xs, sum_by-cons g x xs, All-head (λ y. f y ≡ g y) x xs same, sum_same f g xs (All-tail (λ y. f y ≡ g y) x xs same))

  pub sum_ones : (xs : List X) → sum_by (λ x. 1) xs ≡ length xs
  sum_ones [] = refl
  sum_ones (x ∷ xs) = omega (arith, sum_by-cons (λ y. 1) x xs, sum_ones xs)

  pub some_any : (P : X → Type 0) (xs : List X) → 0 < length xs → All P xs → Any P xs
  some_any P [] some all = absurd (omega (arith, some))
  some_any P (x ∷ xs) some all = (0, x, omega arith, refl, all 0 x (omega arith))

module _ {W X : Type 0} (g : W → X) where
  pub sum_map : (f : X → ℕ) (ws : List W) → sum_by f (map g ws) ≡ sum_by (λ w. f (g w)) ws
  sum_map f [] = refl
  sum_map f (w ∷ ws) = omega (arith, sum_by-cons f (g w) (map g ws), sum_by-cons (λ v. f (g v)) w ws, sum_map f ws)

  -- of values that were taken from the last to the first
  pub sum_back : (f : X → ℕ) (ws : List W) → sum_by f (reverse (map g ws)) ≡ sum_by (λ w. f (g w)) ws
  sum_back f ws = sum_by-IsPermutation f (map g ws) (reverse (map g ws)) (IsPermutation-reverse (map g ws)) ∙ sum_map f ws

  pub all_back : (P : X → Type 0) (ws : List W) → All (λ w. P (g w)) ws → All P (reverse (map g ws))
  all_back P ws all = All-permutation P (map g ws) (reverse (map g ws)) (IsPermutation-reverse (map g ws)) (All-map P g ws all)

  pub contains_back : (ws : List W) (w : W) → Contains ws w → Contains (reverse (map g ws)) (g w)
  contains_back ws w c =
      let at : Contains (map g ws) (g w) = (c.0, omega (arith, c.1, length-map ws g), get_or-map g ws c.0 w (g w) c.1 ∙ ap g c.2) in
      Contains-permutation (map g ws) (reverse (map g ws)) (g w) (IsPermutation-reverse (map g ws)) at

module _ {X A : Type 0} (h : X → List A) where
  pub all_flat : (P : A → Type 0) (xs : List X) → All (λ x. All P (h x)) xs → All P (flat_map h xs)
  all_flat P [] all = All-nil P
  all_flat P (x ∷ xs) all = All-append P (h x) (flat_map h xs) (All-head (λ y. All P (h y)) x xs all) (all_flat P xs (All-tail (λ y. All P (h y)) x xs all))

  pub contains_flat : (xs : List X) (x : X) (y : A) → Contains xs x → Contains (h x) y → Contains (flat_map h xs) y
  contains_flat [] x y c inside = absurd (omega (arith, c.1))
  contains_flat (z ∷ zs) x y c inside =
      ⊎_elim
      (λ (one : Contains (z ∷ []) x). Contains-append_left (h z) (flat_map h zs) y
      (⊎_elim (λ (none : Contains [] x). absurd (omega (arith, none.1))) (λ (e : z ≡ x). subst (λ (t : X). Contains (h t) y) (sym e) inside) (Contains-push_cases [] z x one)))
      (λ (rest : Contains zs x). Contains-append_right (h z) (flat_map h zs) y (contains_flat zs x y rest inside))
      (Contains-append_cases (z ∷ []) zs x c)

  pub times_flat : (number : A → ℕ) (x : ℕ) (xs : List X) → times x (map number (flat_map h xs)) ≡ sum_by (λ y. times x (map number (h y))) xs
  times_flat number x xs =
      let f : A → ℕ = λ a. cond (eqb (number a) x) 1 0 in
      times_map number x (flat_map h xs) ∙ bag-flat_map f h xs
      ∙ sum_same (λ y. sum_by f (h y)) (λ y. times x (map number (h y))) xs (λ k d below. sym (times_map number x (h (get_or xs k d))))
