-- What is sorted and stable is the one arrangement.
use Rattle.std.proofs.Common.{◌≡◌, ◌∙◌, ℕ, zero, suc, ◌+◌, ◌<◌, List, [], ◌∷◌, Bool, true, false, cond, not, ◌&&◌, refl, sym, ap, true≢false, arith, length, slice_index_or}
use native.Mathlib.Numerals.{unary_clauses}
use Rattle.std.specs.Cmp.{IsTotalOrder, IsStrictWeakOrder, upto}
use Rattle.std.specs.List.{filter, AllByRecursion}
use Rattle.std.specs.List.Sorted.{IsSortedBy, ties}
use Rattle.std.specs.Ordering.{is_lt, is_gt, ordering_reverse}
use Rattle.std.specs.declared.cmp.Ordering.{Ordering}
use Rattle.std.specs.declared.cmp.Ordering.TheVariants.{Less, Equal, Greater}
use Rattle.plan_denote.specs.Sort.{IsArrangement, placed, arranged}

gt_of : (a b : Ordering) → a ≡ ordering_reverse b → is_gt a ≡ is_lt b
gt_of a Less is = ap is_gt is
gt_of a Equal is = ap is_gt is
gt_of a Greater is = ap is_gt is

less_not : (a b : Ordering) → b ≡ ordering_reverse a → is_lt a ≡ true → is_lt b ≡ false
less_not Less b is h = ap is_lt is
less_not Equal b is h = absurd (true≢false (sym h))
less_not Greater b is h = absurd (true≢false (sym h))

tie_first : (a b : Bool) → (not a && not b) ≡ true → a ≡ false
tie_first true b is = absurd (true≢false (sym is))
tie_first false b is = refl

tie_second : (a b : Bool) → (not a && not b) ≡ true → b ≡ false
tie_second true b is = absurd (true≢false (sym is))
tie_second false true is = absurd (true≢false (sym is))
tie_second false false is = refl

tied : (a b : Bool) → a ≡ false → b ≡ false → (not a && not b) ≡ true
tied a b p q = ap (λ one. not one && not b) p ∙ ap not q

-- two items that don't both pass may change places
swapped : {A : Type 0} (x y : A) (rest : List A) (p q : Bool) → (p ≡ true → q ≡ true → ⊥) → cond p (y ∷ cond q (x ∷ rest) rest) (cond q (x ∷ rest) rest) ≡ cond q (x ∷ cond p (y ∷ rest) rest) (cond p (y ∷ rest) rest)
swapped x y rest true true apart = absurd (apart refl refl)
swapped x y rest true false apart = refl
swapped x y rest false true apart = refl
swapped x y rest false false apart = refl

module _ {A : Type 0} (cmp : A → A → Ordering) (total : IsTotalOrder cmp) where
  abbrev lt : A → A → Bool
  lt x y = is_lt (cmp x y)

  gt_is : (x y : A) → is_gt (cmp x y) ≡ lt y x
  gt_is x y = gt_of (cmp x y) (cmp y x) (total.antisymm x y)

  weak : IsStrictWeakOrder lt
  weak = record {
    one_way = λ x y h. less_not (cmp x y) (cmp y x) (total.antisymm y x) h;
    chain = λ x y z h k. sym (gt_is z x) ∙ upto total z y x (gt_is z y ∙ k) (gt_is y x ∙ h);
  }

  -- none is less than x
  abbrev Above : A → List A → Type 0
  Above x ys = AllByRecursion (λ y. lt y x ≡ false) ys

  -- none is less than one before it
  abbrev Rising : List A → Type 0
  Rising [] = Unit {0}
  Rising (x ∷ xs) = Above x xs × Rising xs

  above_less : (x y : A) → lt y x ≡ false → (zs : List A) → Above y zs → Above x zs
  above_less x y h [] above = tt
  above_less x y h (z ∷ zs) above = (weak.chain z y x above.0 h, above_less x y h zs above.1)

  sorted_tail : (x : A) (xs : List A) → IsSortedBy lt (x ∷ xs) → IsSortedBy lt xs
  sorted_tail x xs sorted k d low high = simp unary_clauses (simp unary_clauses at (sorted (suc k) d (omega arith) (omega arith)))

  sorted_above : (x : A) (xs : List A) → IsSortedBy lt (x ∷ xs) → Above x xs
  sorted_above x [] sorted = tt
  sorted_above x (y ∷ ys) sorted = let first : lt y x ≡ false = sorted 0 x (omega arith) (omega arith) in (first, above_less x y first ys (sorted_above y ys (sorted_tail x (y ∷ ys) sorted)))

  rising : (xs : List A) → IsSortedBy lt xs → Rising xs
  rising [] sorted = tt
  rising (x ∷ xs) sorted = (sorted_above x xs sorted, rising xs (sorted_tail x xs sorted))

  above_by : (x y z : A) (zs : List A) → lt x y ≡ false → Above y (z ∷ zs) → Above y (placed cmp x zs) → (test : Bool) → Above y (cond test (z ∷ placed cmp x zs) (x ∷ z ∷ zs))
  above_by x y z zs h above ih true = (above.0, ih)
  above_by x y z zs h above ih false = (h, above)

  above_placed : (x y : A) (zs : List A) → lt x y ≡ false → Above y zs → Above y (placed cmp x zs)
  above_placed x y [] h above = (h, tt)
  above_placed x y (z ∷ zs) h above = above_by x y z zs h above (above_placed x y zs h above.1) (is_gt (cmp x z))

  rising_by : (x z : A) (zs : List A) → Rising (z ∷ zs) → Rising (placed cmp x zs) → (test : Bool) → is_gt (cmp x z) ≡ test → Rising (cond test (z ∷ placed cmp x zs) (x ∷ z ∷ zs))
  rising_by x z zs up ih true is = (above_placed x z zs (weak.one_way z x (sym (gt_is x z) ∙ is)) up.0, ih)
  rising_by x z zs up ih false is = let h : lt z x ≡ false = sym (gt_is x z) ∙ is in ((h, above_less x z h zs up.0), up)

  rising_placed : (x : A) (zs : List A) → Rising zs → Rising (placed cmp x zs)
  rising_placed x [] up = (tt, tt)
  rising_placed x (z ∷ zs) up = rising_by x z zs up (rising_placed x zs up.1) (is_gt (cmp x z)) refl

  rising_arranged : (xs : List A) → Rising (arranged cmp xs)
  rising_arranged [] = tt
  rising_arranged (x ∷ xs) = rising_placed x (arranged cmp xs) (rising_arranged xs)

  apart : (w x y : A) → lt y x ≡ true → ties lt w y ≡ true → ties lt w x ≡ true → ⊥
  apart w x y less p q = true≢false (sym less ∙ weak.chain y w x (tie_second (lt w y) (lt y w) p) (tie_first (lt w x) (lt x w) q))

  kept_by : (w x y : A) (ys : List A) → filter (ties lt w) (placed cmp x ys) ≡ filter (ties lt w) (x ∷ ys) → (test : Bool) → is_gt (cmp x y) ≡ test
      → filter (ties lt w) (cond test (y ∷ placed cmp x ys) (x ∷ y ∷ ys)) ≡ filter (ties lt w) (x ∷ y ∷ ys)
  kept_by w x y ys ih true is =
      ap (λ rest. cond (ties lt w y) (y ∷ rest) rest) ih
      ∙ swapped x y (filter (ties lt w) ys) (ties lt w y) (ties lt w x) (apart w x y (sym (gt_is x y) ∙ is))
  kept_by w x y ys ih false is = refl

  kept_placed : (w x : A) (ys : List A) → filter (ties lt w) (placed cmp x ys) ≡ filter (ties lt w) (x ∷ ys)
  kept_placed w x [] = refl
  kept_placed w x (y ∷ ys) = kept_by w x y ys (kept_placed w x ys) (is_gt (cmp x y)) refl

  kept_arranged : (w : A) (xs : List A) → filter (ties lt w) (arranged cmp xs) ≡ filter (ties lt w) xs
  kept_arranged w [] = refl
  kept_arranged w (x ∷ xs) = kept_placed w x (arranged cmp xs) ∙ ap (λ rest. cond (ties lt w x) (x ∷ rest) rest) (kept_arranged w xs)

  itself : (x : A) → lt x x ≡ false
  itself x = by_test (lt x x) refl
    where
      by_test : (test : Bool) → lt x x ≡ test → lt x x ≡ false
      by_test true is = weak.one_way x x is
      by_test false is = is

  tied_itself : (x : A) → ties lt x x ≡ true
  tied_itself x = tied (lt x x) (lt x x) (itself x) (itself x)

  -- what is first among the items that tie with it isn't less than the least
  found_by : (x z : A) (zs rest : List A) → Above z zs → (test : Bool) → ties lt x z ≡ test → cond test (z ∷ filter (ties lt x) zs) (filter (ties lt x) zs) ≡ x ∷ rest
      → ((ys : List A) → Above z ys → filter (ties lt x) ys ≡ x ∷ rest → lt x z ≡ false) → lt x z ≡ false
  found_by x z zs rest above true is same later = tie_first (lt x z) (lt z x) is
  found_by x z zs rest above false is same later = later zs above same

  found_later : (x z : A) (rest ys : List A) → Above z ys → filter (ties lt x) ys ≡ x ∷ rest → lt x z ≡ false
  found_later x z rest [] above same = absurd (cc)
  found_later x z rest (y ∷ ys) above same = later_by (ties lt x y) refl same (found_later x z rest ys above.1)
    where
      later_by : (test : Bool) → ties lt x y ≡ test → cond test (y ∷ filter (ties lt x) ys) (filter (ties lt x) ys) ≡ x ∷ rest → (filter (ties lt x) ys ≡ x ∷ rest → lt x z ≡ false) → lt x z ≡ false
      later_by true is same ih = weak.chain x y z (tie_first (lt x y) (lt y x) is) above.0
      later_by false is same ih = ih same

  found : (x z : A) (zs rest : List A) → Above z zs → filter (ties lt x) (z ∷ zs) ≡ x ∷ rest → lt x z ≡ false
  found x z zs rest above same = found_by x z zs rest above (ties lt x z) refl same (found_later x z rest)

  abbrev Alike : List A → List A → Type 0
  Alike ys zs = (x : A) → filter (ties lt x) ys ≡ filter (ties lt x) zs

  first_kept : (x : A) (xs : List A) → filter (ties lt x) (x ∷ xs) ≡ x ∷ filter (ties lt x) xs
  first_kept x xs = ap (λ test. cond test (x ∷ filter (ties lt x) xs) (filter (ties lt x) xs)) (tied_itself x)

  heads : {x y : A} {xs ys : List A} → x ∷ xs ≡ y ∷ ys → x ≡ y
  heads same = cc

  rests : {x y : A} {xs ys : List A} → x ∷ xs ≡ y ∷ ys → xs ≡ ys
  rests same = cc

  tail_by : (x y : A) (ys zs : List A) (test : Bool) → cond test (y ∷ ys) ys ≡ cond test (y ∷ zs) zs → ys ≡ zs
  tail_by x y ys zs true same = rests same
  tail_by x y ys zs false same = same

  first_alike : (y z : A) (ys zs : List A) → Rising (y ∷ ys) → Rising (z ∷ zs) → Alike (y ∷ ys) (z ∷ zs) → y ≡ z
  first_alike y z ys zs up higher alike =
      let not_less : lt y z ≡ false = found y z zs _ higher.0 (sym (alike y) ∙ first_kept y ys) in
      let not_more : lt z y ≡ false = found z y ys _ up.0 (alike z ∙ first_kept z zs) in
      let second : filter (ties lt y) (z ∷ zs) ≡ z ∷ filter (ties lt y) zs = ap (λ test. cond test (z ∷ filter (ties lt y) zs) (filter (ties lt y) zs)) (tied (lt y z) (lt z y) not_less not_more) in
      heads (sym (first_kept y ys) ∙ alike y ∙ second)

  -- two lists in order in which what ties stands in the same order are the same
  alone : (ys zs : List A) → Rising ys → Rising zs → Alike ys zs → ys ≡ zs
  alone [] [] up higher alike = refl
  alone [] (z ∷ zs) up higher alike = absurd (none (alike z ∙ first_kept z zs))
    where
      none : {x : A} {xs : List A} → [] ≡ x ∷ xs → ⊥
      none same = cc
  alone (y ∷ ys) [] up higher alike = absurd (none (sym (first_kept y ys) ∙ alike y))
    where
      none : {x : A} {xs : List A} → x ∷ xs ≡ [] → ⊥
      none same = cc
  alone (y ∷ ys) (z ∷ zs) up higher alike =
      let first = first_alike y z ys zs up higher alike in
      let same : Alike ys zs = λ x. tail_by x y _ _ (ties lt x y) (alike x ∙ ap (λ one. cond (ties lt x one) (one ∷ filter (ties lt x) zs) (filter (ties lt x) zs)) (sym first)) in
      λ i. first i ∷ alone ys zs up.1 higher.1 same i

  next_above : (x : A) (xs : List A) → Above x xs → (k : ℕ) (d : A) → k < length xs → lt (slice_index_or xs k d) x ≡ false
  next_above x [] above k d there = absurd (omega arith)
  next_above x (y ∷ ys) above zero d there = above.0
  next_above x (y ∷ ys) above (suc k) d there = next_above x ys above.1 k d (omega arith)

  sorted_by : (xs : List A) → Rising xs → (k : ℕ) (d : A) → k + 1 < length xs → lt (slice_index_or xs (suc k) d) (slice_index_or xs k d) ≡ false
  sorted_by [] up k d there = absurd (omega arith)
  sorted_by (x ∷ xs) up zero d there = next_above x xs up.0 0 d (omega arith)
  sorted_by (x ∷ xs) up (suc k) d there = sorted_by xs up.1 k d (omega arith)

  sorted_rising : (xs : List A) → Rising xs → IsSortedBy lt xs
  sorted_rising xs up k d low high = simp unary_clauses (sorted_by xs up k d high)

  -- what is arranged is in order, and what ties stands as it stood
  pub arrangement : (xs : List A) → IsArrangement cmp xs (arranged cmp xs)
  arrangement xs = record { sorted = sorted_rising (arranged cmp xs) (rising_arranged xs); stable = λ x. kept_arranged x xs }

  -- and nothing else is an arrangement
  pub is_arranged : (xs ys : List A) → IsArrangement cmp xs ys → ys ≡ arranged cmp xs
  is_arranged xs ys is = alone ys (arranged cmp xs) (rising ys is.sorted) (rising_arranged xs) (λ x. is.stable x ∙ sym (kept_arranged x xs))
