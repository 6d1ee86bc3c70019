-- Totals and facts over the views of all seats: one view changed, one more view, and a view that has all shares.
use Rattle.std.proofs.Common.{◌≡◌, ◌≢◌, ℕ, zero, suc, ◌+◌, ◌<◌, ◌≤◌, List, [], ◌∷◌, ◌++◌, length, set, get_or, sum_by, arith, sym, ap, ◌∙◌, subst, refl, ⊎_elim}
use mathlib.Core.Option.{some, some-injective, some-ne-none}
use lib.ListN.{get_elem?}
use Rattle.std.proofs.lemmas.List.Sums.{sum_by-set, sum_by-cons, sum_by_push, get_or-le-sum_by}
use Rattle.atomic_table.proofs.Lists.{at_set, at_snoc, set_else}

module _ {V : Type 0} where
  -- the fact holds of each view
  abbrev pub Each : (V → Type 0) → List V → Type 0
  Each P views = (id : ℕ) (v : V) → get_elem? views id ≡ some v → P v

  -- a view that is there
  pub there : (views : List V) (id : ℕ) (v : V) → get_elem? views id ≡ some v → (id < length views) × (get_or views id v ≡ v)
  there [] id v e = absurd (some-ne-none v (sym e))
  there (x ∷ xs) zero v e = (omega arith, some-injective x v e)
  there (x ∷ xs) (suc id) v e = let t = there xs id v e in (omega arith, t.1)

  pub total_set : (f : V → ℕ) (views : List V) (id : ℕ) (v w : V) → get_elem? views id ≡ some v → sum_by f (set views id w) + f v ≡ sum_by f views + f w
  total_set f views id v w e = let t = there views id v e in omega (arith, sum_by-set f views id w v t.0, ap f t.1)

  pub total_snoc : (f : V → ℕ) (views : List V) (w : V) → sum_by f (views ++ w ∷ []) ≡ sum_by f views + f w
  total_snoc f views w = sum_by_push f views w

  -- one view has no more than all together
  pub total_most : (f : V → ℕ) (views : List V) (id : ℕ) (v : V) → get_elem? views id ≡ some v → f v ≤ sum_by f views
  total_most f views id v e = let t = there views id v e in omega (arith, get_or-le-sum_by f views id v t.0, ap f t.1)

  pub each_set : (P : V → Type 0) (views : List V) (id : ℕ) (w : V) → P w → Each P views → Each P (set views id w)
  each_set P views id w mine others j u e =
      ⊎_elim (λ (x : (j ≡ id) × (w ≡ u)). subst P x.1 mine) (λ (x : (j ≢ id) × (get_elem? views j ≡ some u)). others j u x.1) (at_set views id j w u e)

  pub each_snoc : (P : V → Type 0) (views : List V) (w : V) → P w → Each P views → Each P (views ++ w ∷ [])
  each_snoc P views w mine others j u e =
      ⊎_elim (λ (x : get_elem? views j ≡ some u). others j u x) (λ (x : w ≡ u). subst P x mine) (at_snoc views w u j e)

  -- another view than the one that was changed
  pub other_at : (views : List V) (id other : ℕ) (w u : V) → other ≢ id → get_elem? (set views id w) other ≡ some u → get_elem? views other ≡ some u
  other_at views id other w u ne e = sym (set_else views id other w ne) ∙ e

  -- where each view has no more of the one than of the other, all together have no more
  pub total_le : (f g : V → ℕ) (views : List V) → Each (λ v. f v ≤ g v) views → sum_by f views ≤ sum_by g views
  total_le f g [] le = omega arith
  total_le f g (x ∷ xs) le = omega (arith, le 0 x refl, total_le f g xs (λ id v e. le (suc id) v e), sum_by-cons f x xs, sum_by-cons g x xs)

  -- where a view with no share has nothing, and there are no shares, there is nothing
  pub total_none : (share f : V → ℕ) (views : List V) → Each (λ v. share v ≡ 0 → f v ≡ 0) views → sum_by share views ≡ 0 → sum_by f views ≡ 0
  total_none share f [] idle none = refl
  total_none share f (x ∷ xs) idle none =
      let s = sum_by-cons share x xs in
      let mine : f x ≡ 0 = idle 0 x refl (omega arith) in
      let rest = total_none share f xs (λ id v e. idle (suc id) v e) (omega arith) in
      omega (arith, sum_by-cons f x xs)

  -- a view with all shares has all
  pub total_whole : (share f : V → ℕ) (views : List V) (id : ℕ) (v : V) → Each (λ u. share u ≡ 0 → f u ≡ 0) views → get_elem? views id ≡ some v → sum_by share views ≡ share v
      → sum_by f views ≡ f v
  total_whole share f [] id v idle e all = absurd (some-ne-none v (sym e))
  total_whole share f (x ∷ xs) zero v idle e all =
      let is : x ≡ v = some-injective x v e in
      let same : share x ≡ share v = ap share is in
      let s = sum_by-cons share x xs in
      let rest = total_none share f xs (λ j u h. idle (suc j) u h) (omega arith) in
      omega (arith, sum_by-cons f x xs, ap f is)
  total_whole share f (x ∷ xs) (suc id) v idle e all =
      let s = sum_by-cons share x xs in
      let most : share v ≤ sum_by share xs = total_most share xs id v e in
      let mine : f x ≡ 0 = idle 0 x refl (omega arith) in
      let rest = total_whole share f xs id v (λ j u h. idle (suc j) u h) e (omega arith) in
      omega (arith, sum_by-cons f x xs)
