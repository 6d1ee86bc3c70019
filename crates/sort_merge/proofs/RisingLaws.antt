-- Rows that tie rise in their numbers, so that they stand as they stood after the numbers were put in order.
use Rattle.std.proofs.Common.{◌≡◌, ◌∙◌, ℕ, zero, suc, ◌<◌, ◌≤◌, ◌+◌, ◌^◌, List, [], ◌∷◌, Bool, true, false, cond, not, ◌&&◌, map, refl, sym, ap, subst, arith}
use Rattle.std.specs.List.{AllByRecursion, filter, range_with_len}
use Rattle.std.specs.List.Sorted.{ties, IsSortedBy}
use Rattle.std.specs.Ordering.{is_lt, is_gt, nat_cmp, ordering_then, MatchOrdering}
use Rattle.std.specs.declared.cmp.Ordering.{Ordering}
use Rattle.std.specs.declared.cmp.Ordering.TheVariants.{Less, Equal, Greater}
use Rattle.std.proofs.lemmas.Cmp.{ranked, nat_cmp_total}
use Rattle.batch.specs.declared.batch.Batch.{Batch}
use Rattle.batch_places.specs.BatchRow.{has_row, row_at}
use Rattle.row_keys.specs.Keys.{sort_key_of, direction_of}
use Rattle.plan_denote.specs.Sort.{IsArrangement, placed, arranged}
use Rattle.plan_denote.proofs.SortLaws.{is_arranged}
use Rattle.rel_specs.specs.declared.key_order.KeyOrder.{KeyOrder}
use Rattle.sort_merge.specs.Prefix.{key_prefix, shortened, packed, prefix_of, row_of, prefixed_at, prefixed_cmp}
use Rattle.sort_merge.specs.RowOrder.{place_cmp}
use Rattle.sort_merge.specs.declared.scale.Scale.{Scale}
use Rattle.sort_merge.proofs.PrefixLaws.{prefix_packed}

-- each number is at most those behind it
abbrev Rising : List ℕ → Type 0
Rising [] = Unit {0}
Rising (x ∷ xs) = (AllByRecursion (λ y. x ≤ y) xs) × (Rising xs)

greater_by : (x y : ℕ) (r : Ordering) → MatchOrdering r (x < y) (x ≡ y) (y < x) → is_gt r ≡ true → y < x
greater_by x y Less is e = absurd (cc)
greater_by x y Equal is e = absurd (cc)
greater_by x y Greater is e = is

greater : (x y : ℕ) → is_gt (nat_cmp x y) ≡ true → y < x
greater x y e = greater_by x y (nat_cmp x y) (ranked x y (nat_cmp x y) refl) e

low_parts : (x y : ℕ) (kept : List ℕ) (keep : Bool) → AllByRecursion (λ z. x ≤ z) (cond keep (y ∷ kept) kept) → (keep ≡ true → x ≤ y) × (AllByRecursion (λ z. x ≤ z) kept)
low_parts x y kept true low = (λ e. low.0, low.1)
low_parts x y kept false low = (λ e. absurd (cc), low)

never : (keep : Bool) → (keep ≡ true → ⊥) → keep ≡ false
never true left_out = absurd (left_out refl)
never false left_out = refl

module _ (test : ℕ → Bool) where
  skipped_by : (x y : ℕ) (ys : List ℕ) → test x ≡ false → filter test (placed nat_cmp x ys) ≡ filter test ys → (after : Bool) → filter test (cond after (y ∷ placed nat_cmp x ys) (x ∷ y ∷ ys)) ≡ filter test (y ∷ ys)
  skipped_by x y ys left_out ih true = ap (λ rest. cond (test y) (y ∷ rest) rest) ih
  skipped_by x y ys left_out ih false = ap (λ keep. cond keep (x ∷ filter test (y ∷ ys)) (filter test (y ∷ ys))) left_out

  -- a number that isn't kept may stand anywhere
  skipped : (x : ℕ) (ys : List ℕ) → test x ≡ false → filter test (placed nat_cmp x ys) ≡ filter test ys
  skipped x [] left_out = ap (λ keep. cond keep (x ∷ []) []) left_out
  skipped x (y ∷ ys) left_out = skipped_by x y ys left_out (skipped x ys left_out) (is_gt (nat_cmp x y))

  first_by : (x y : ℕ) (ys : List ℕ) → test x ≡ true → (is_gt (nat_cmp x y) ≡ true → test y ≡ false) → filter test (placed nat_cmp x ys) ≡ x ∷ filter test ys → (after : Bool) → is_gt (nat_cmp x y) ≡ after
      → filter test (cond after (y ∷ placed nat_cmp x ys) (x ∷ y ∷ ys)) ≡ x ∷ filter test (y ∷ ys)
  first_by x y ys taken less ih true after =
      ap (λ keep. cond keep (y ∷ filter test (placed nat_cmp x ys)) (filter test (placed nat_cmp x ys))) (less after) ∙ ih
      ∙ ap (λ rest. x ∷ rest) (sym (ap (λ keep. cond keep (y ∷ filter test ys) (filter test ys)) (less after)))
  first_by x y ys taken less ih false after = ap (λ keep. cond keep (x ∷ filter test (y ∷ ys)) (filter test (y ∷ ys))) taken

  -- one that is kept, and is at most all others that are, comes before them
  first : (x : ℕ) (ys : List ℕ) → test x ≡ true → AllByRecursion (λ y. x ≤ y) (filter test ys) → filter test (placed nat_cmp x ys) ≡ x ∷ filter test ys
  first x [] taken low = ap (λ keep. cond keep (x ∷ []) []) taken
  first x (y ∷ ys) taken low =
      let parts = low_parts x y (filter test ys) (test y) low in
      first_by x y ys taken (λ after. never (test y) (λ kept. let above = parts.0 kept in let below = greater x y after in omega arith)) (first x ys taken parts.1) (is_gt (nat_cmp x y)) refl

  kept_by : (x : ℕ) (xs : List ℕ) → (Rising (filter test xs) → filter test (arranged nat_cmp xs) ≡ filter test xs) → (keep : Bool) → test x ≡ keep → Rising (cond keep (x ∷ filter test xs) (filter test xs))
      → filter test (placed nat_cmp x (arranged nat_cmp xs)) ≡ cond keep (x ∷ filter test xs) (filter test xs)
  kept_by x xs ih true is rising =
      let same = ih rising.1 in
      first x (arranged nat_cmp xs) is (subst (AllByRecursion (λ y. x ≤ y)) (sym same) rising.0) ∙ ap (λ rest. x ∷ rest) same
  kept_by x xs ih false is rising = skipped x (arranged nat_cmp xs) is ∙ ih rising

  -- numbers that are kept and rise stand as they stood
  kept_in_order : (xs : List ℕ) → Rising (filter test xs) → filter test (arranged nat_cmp xs) ≡ filter test xs
  kept_in_order [] rising = refl
  kept_in_order (x ∷ xs) rising = kept_by x xs (kept_in_order xs) (test x) refl rising

  module _ (f : ℕ → ℕ) (end : ℕ) (up : (i j : ℕ) → i < j → j < end → test (f i) ≡ true → test (f j) ≡ true → f i ≤ f j) where
    above_by : (i a : ℕ) (rest : List ℕ) → i < a → a < end → test (f i) ≡ true → AllByRecursion (λ y. f i ≤ y) rest → (keep : Bool) → test (f a) ≡ keep → AllByRecursion (λ y. f i ≤ y) (cond keep (f a ∷ rest) rest)
    above_by i a rest low within here all true is = (up i a low within here is, all)
    above_by i a rest low within here all false is = all

    above : (i a n : ℕ) → i < a → a + n ≤ end → test (f i) ≡ true → AllByRecursion (λ y. f i ≤ y) (filter test (map f (range_with_len a n)))
    above i a zero low within here = tt
    above i a (suc n) low within here =
        above_by i a (filter test (map f (range_with_len (a + 1) n))) low (omega arith) here (above i (a + 1) n (omega arith) (omega arith) here) (test (f a)) refl

    rising_by : (a n : ℕ) → a + 1 + n ≤ end → Rising (filter test (map f (range_with_len (a + 1) n))) → (keep : Bool) → test (f a) ≡ keep
        → Rising (cond keep (f a ∷ filter test (map f (range_with_len (a + 1) n))) (filter test (map f (range_with_len (a + 1) n))))
    rising_by a n within rest true is = (above a (a + 1) n (omega arith) within is, rest)
    rising_by a n within rest false is = rest

    -- those of a function that are kept rise if the function does there
    rising : (a n : ℕ) → a + n ≤ end → Rising (filter test (map f (range_with_len a n)))
    rising a zero within = tt
    rising a (suc n) within = rising_by a n (omega arith) (rising (a + 1) n (omega arith)) (test (f a)) refl

tied_by : (m n : ℕ) (one other : Ordering) (r s : Ordering) → MatchOrdering r (m < n) (m ≡ n) (n < m) → MatchOrdering s (n < m) (n ≡ m) (m < n) → not (is_lt (ordering_then r one)) && not (is_lt (ordering_then s other)) ≡ true → m ≡ n
tied_by m n one other Less s is back e = absurd (cc)
tied_by m n one other Equal s is back e = is
tied_by m n one other Greater Less is back e = absurd (cc)
tied_by m n one other Greater Equal is back e = sym back
tied_by m n one other Greater Greater is back e = absurd (omega arith)

-- places in order, as they stood
pub arranged_from : (cmp : ℕ → ℕ → Ordering) (places ordered : List ℕ) (n : ℕ) → places ≡ range_with_len 0 n → IsSortedBy (λ a b. is_lt (cmp a b)) ordered
    → ((x : ℕ) → filter (ties (λ a b. is_lt (cmp a b)) x) ordered ≡ filter (ties (λ a b. is_lt (cmp a b)) x) places) → IsArrangement cmp (range_with_len 0 n) ordered
arranged_from cmp places ordered n all sorted stable = record { sorted = sorted; stable = λ x. stable x ∙ ap (filter (ties (λ a b. is_lt (cmp a b)) x)) all }

module _ (scale : Scale) (keys : List KeyOrder) (batch : Batch) (few : batch.rows ≤ 2 ^ 32) where
  abbrev lt : ℕ → ℕ → Bool
  lt x y = is_lt (prefixed_cmp keys (has_row batch) (row_at batch) x y)

  -- rows that tie have one prefix
  same_prefix : (x y : ℕ) → ties lt x y ≡ true → prefix_of x ≡ prefix_of y
  same_prefix x y tie =
      let cmp = place_cmp keys (has_row batch) (row_at batch) in
      let m = prefix_of x in
      let n = prefix_of y in
      tied_by m n (cmp (row_of x) (row_of y)) (cmp (row_of y) (row_of x)) (nat_cmp m n) (nat_cmp n m) (ranked m n (nat_cmp m n) refl) (ranked n m (nat_cmp n m) refl) tie

  up : (x i j : ℕ) → i < j → j < batch.rows → ties lt x (prefixed_at scale keys batch i) ≡ true → ties lt x (prefixed_at scale keys batch j) ≡ true → prefixed_at scale keys batch i ≤ prefixed_at scale keys batch j
  up x i j low within here there =
      let one = shortened scale (key_prefix (map direction_of keys) (sort_key_of keys batch i)) in
      let other = shortened scale (key_prefix (map direction_of keys) (sort_key_of keys batch j)) in
      let same : one ≡ other =
      sym (prefix_packed one i (omega arith)) ∙ sym (same_prefix x (prefixed_at scale keys batch i) here) ∙ same_prefix x (prefixed_at scale keys batch j) there ∙ prefix_packed other j (omega arith) in
      subst (λ prefix. packed one i ≤ packed prefix j) same (omega arith)

  -- the rows of a batch may be put in order by their numbers before they are by their keys
  pub ties_stand : (rows ordered : List ℕ) → rows ≡ map (prefixed_at scale keys batch) (range_with_len 0 batch.rows) → IsArrangement nat_cmp rows ordered → (x : ℕ) → filter (ties lt x) ordered ≡ filter (ties lt x) rows
  ties_stand rows ordered all is x =
      let from = range_with_len 0 batch.rows in
      ap (filter (ties lt x)) (is_arranged nat_cmp nat_cmp_total rows ordered is)
      ∙ kept_in_order (ties lt x) rows
      (subst (λ some. Rising (filter (ties lt x) some)) (sym all) (rising (ties lt x) (prefixed_at scale keys batch) batch.rows (up x) 0 batch.rows (omega arith)))

  -- so they are in order after both
  pub arranged_twice : (rows between ordered : List ℕ) → rows ≡ map (prefixed_at scale keys batch) (range_with_len 0 batch.rows) → IsArrangement nat_cmp rows between → IsSortedBy lt ordered
      → ((x : ℕ) → filter (ties lt x) ordered ≡ filter (ties lt x) between) → IsArrangement (prefixed_cmp keys (has_row batch) (row_at batch)) (map (prefixed_at scale keys batch) (range_with_len 0 batch.rows)) ordered
  arranged_twice rows between ordered all first sorted stable = record {
    sorted = sorted;
    stable = λ x. stable x ∙ ties_stand rows between all first x ∙ ap (filter (ties lt x)) all;
  }
