-- Rows whose prefixes don't fall are put in order stretch by stretch.
use Rattle.std.proofs.Common.{◌≡◌, ◌≢◌, ◌∙◌, ℕ, ◌+◌, ◌-◌, ◌<◌, ◌≤◌, List, [], ◌∷◌, ◌++◌, Bool, true, false, cond, length, map, take, drop, get_or, set, refl, sym, ap, subst, arith, append_assoc, inl, inr}
use borrow.Rule.Slice.PartMut.{put_mid}
use Rattle.std.specs.Cmp.{IsTotalOrder}
use Rattle.std.specs.List.{AllByRecursion}
use Rattle.std.specs.List.Sorted.{IsNonDecreasingBy, IsSorted}
use Rattle.std.specs.Ordering.{is_gt, nat_cmp, ordering_then}
use Rattle.std.specs.declared.cmp.Ordering.{Ordering}
use Rattle.std.specs.declared.cmp.Ordering.TheVariants.{Less}
use Rattle.std.proofs.Math.Seq.{take-append_seam, drop-append_seam, take-append-add, drop-append-add}
use Rattle.std.proofs.lemmas.Bool.{lt-ltb, cases_lt}
use Rattle.std.proofs.lemmas.List.{take-append-drop, length-take-le, length-take, length-drop, length-append, get_or-take, get_or-drop, get_or_default, take_all, drop_all, append-nil}
use Rattle.std.proofs.lemmas.Cmp.{nat_cmp_total, on_total, then_total}
use Rattle.std.proofs.lemmas.List.Edits.{map_over_more}
use Rattle.std.proofs.lemmas.List.Elements.{recursion_from_All}
use Rattle.std.proofs.lemmas.List.Sorted.{IsNonDecreasingBy-from_sort}
use Rattle.plan_denote.specs.Rows.{Row}
use Rattle.plan_denote.specs.Sort.{IsArrangement, placed, arranged}
use Rattle.plan_denote.proofs.SortLaws.{arrangement, is_arranged}
use Rattle.rel_specs.specs.declared.key_order.KeyOrder.{KeyOrder}
use Rattle.sort_merge.specs.Prefix.{prefix_of, row_of, prefixed_cmp}
use Rattle.sort_merge.specs.RowOrder.{place_cmp}
use Rattle.sort_merge.proofs.ArrangedLaws.{all_arranged}
use Rattle.sort_merge.proofs.OrderLaws.{place_total}

-- the first items of a list, and those behind, over a part between
take_split : {A : Type 0} (xs : List A) (from to : ℕ) → from ≤ to → from ≤ length xs → take to xs ≡ take from xs ++ take (to - from) (drop from xs)
take_split xs from to rising within =
    let long : length (take from xs) + (to - from) ≡ to = omega (arith, length-take-le from xs within) in
    ap (take to) (sym (take-append-drop from xs)) ∙ ap (λ n. take n (take from xs ++ drop from xs)) (sym long) ∙ take-append-add (take from xs) (drop from xs) (to - from)

pub drop_split : {A : Type 0} (xs : List A) (from to : ℕ) → from ≤ to → from ≤ length xs → drop to xs ≡ drop (to - from) (drop from xs)
drop_split xs from to rising within =
    let long : length (take from xs) + (to - from) ≡ to = omega (arith, length-take-le from xs within) in
    ap (drop to) (sym (take-append-drop from xs)) ∙ ap (λ n. drop n (take from xs ++ drop from xs)) (sym long) ∙ drop-append-add (take from xs) (drop from xs) (to - from)

module _ {A : Type 0} (cmp : A → A → Ordering) where
  length-by : (x y : A) (ys : List A) → length (placed cmp x ys) ≡ 1 + length ys → (test : Bool) → length (cond test (y ∷ placed cmp x ys) (x ∷ y ∷ ys)) ≡ 2 + length ys
  length-by x y ys ih true = omega (arith, ih)
  length-by x y ys ih false = omega arith

  length-placed : (x : A) (ys : List A) → length (placed cmp x ys) ≡ 1 + length ys
  length-placed x [] = refl
  length-placed x (y ∷ ys) = omega (arith, length-by x y ys (length-placed x ys) (is_gt (cmp x y)))

  length-arranged : (xs : List A) → length (arranged cmp xs) ≡ length xs
  length-arranged [] = refl
  length-arranged (x ∷ xs) = omega (arith, length-placed x (arranged cmp xs), length-arranged xs)

  -- an item that is before all others
  abbrev IsBefore : List A → A → Type 0
  IsBefore ys x = AllByRecursion (λ y. cmp x y ≡ Less) ys

  before : (x : A) (ys : List A) → IsBefore ys x → placed cmp x ys ≡ x ∷ ys
  before x [] all = refl
  before x (y ∷ ys) all = ap (λ test. cond test (y ∷ placed cmp x ys) (x ∷ y ∷ ys)) (ap is_gt all.0)

  append-by : (x z : A) (xs ys : List A) → placed cmp x (xs ++ ys) ≡ placed cmp x xs ++ ys → (test : Bool)
      → cond test (z ∷ placed cmp x (xs ++ ys)) (x ∷ z ∷ (xs ++ ys)) ≡ cond test (z ∷ placed cmp x xs) (x ∷ z ∷ xs) ++ ys
  append-by x z xs ys ih true = ap (λ rest. z ∷ rest) ih
  append-by x z xs ys ih false = refl

  placed-append : (x : A) (xs ys : List A) → IsBefore ys x → placed cmp x (xs ++ ys) ≡ placed cmp x xs ++ ys
  placed-append x [] ys all = before x ys all
  placed-append x (z ∷ xs) ys all = append-by x z xs ys (placed-append x xs ys all) (is_gt (cmp x z))

  -- where all items of a list are before all of another, each may be put in order by itself
  arranged-append : (xs ys : List A) → AllByRecursion (IsBefore ys) xs → arranged cmp (xs ++ ys) ≡ arranged cmp xs ++ arranged cmp ys
  arranged-append [] ys all = refl
  arranged-append (x ∷ xs) ys all =
      ap (placed cmp x) (arranged-append xs ys all.1)
      ∙ placed-append x (arranged cmp xs) (arranged cmp ys) (all_arranged (λ y. cmp x y ≡ Less) cmp ys all.0)

-- the prefixes of numbers that are in order don't fall
pub rising_prefixes : (xs : List ℕ) → IsSorted nat_cmp xs → IsNonDecreasingBy prefix_of xs
rising_prefixes xs sorted i j d low below = let up = IsNonDecreasingBy-from_sort (λ (one : ℕ). one) xs sorted i j d low below in omega (arith, up)

-- of one row more only the place is left, and of all
pub place_kept : (xs ys : List ℕ) (i x y : ℕ) → i < length xs → ys ≡ map row_of (take i xs) ++ drop i xs → x ≡ get_or ys i x → y ≡ row_of x → set ys i y ≡ map row_of (take (i + 1) xs) ++ drop (i + 1) xs
place_kept xs ys i x y below so_far at is = ap (set ys i) is ∙ map_over_more row_of xs ys i x below so_far at

pub places_kept : (xs ys : List ℕ) (i : ℕ) → length xs ≤ i → ys ≡ map row_of (take i xs) ++ drop i xs → ys ≡ map row_of xs
places_kept xs ys i past so_far =
    so_far ∙ ap (λ rest. map row_of (take i xs) ++ rest) (drop_all i xs past) ∙ append-nil (map row_of (take i xs)) ∙ ap (map row_of) (take_all i xs past)

less_first : (m n : ℕ) (o : Ordering) → m < n → ordering_then (nat_cmp m n) o ≡ Less
less_first m n o up = rw (lt-ltb m n up) refl

-- the prefixes of all rows before a place are below those of all from there on
abbrev AreApart : List ℕ → ℕ → Type 0
AreApart xs from = (i j : ℕ) (d : ℕ) → i < from → from ≤ j → j < length xs → prefix_of (get_or xs i d) < prefix_of (get_or xs j d)

less_where : (m n : ℕ) → m ≤ n → m ≢ n → m < n
less_where m n low apart =
    elim (cases_lt m n) [
      | inl below ↦ below
      | inr past ↦ let same : m ≡ n = omega arith in absurd (apart same)
    ]

module _ (keys : List KeyOrder) (is_there : ℕ → Bool) (row_at : ℕ → Row) where
  abbrev cmp : ℕ → ℕ → Ordering
  cmp = prefixed_cmp keys is_there row_at

  pub cmp_total : IsTotalOrder cmp
  cmp_total = then_total (on_total prefix_of nat_cmp_total) (on_total row_of (place_total keys is_there row_at))

  -- a stretch in order, in its place
  pub stretch_put : (rows new : List ℕ) (from to : ℕ) → from < to → to ≤ length rows → IsArrangement cmp (take (to - from) (drop from rows)) new
      → put_mid from (to - from) rows new ≡ take from rows ++ (arranged cmp (take (to - from) (drop from rows)) ++ drop to rows)
  stretch_put rows new from to longer within is =
      ap (λ part. take from rows ++ (part ++ drop (to - from) (drop from rows))) (is_arranged cmp cmp_total (take (to - from) (drop from rows)) new is)
      ∙ ap (λ rest. take from rows ++ (arranged cmp (take (to - from) (drop from rows)) ++ rest)) (sym (drop_split rows from to (omega arith) (omega arith)))

  -- the rows before a place are in order, and the others as they were
  pub record IsOrderedTo (xs : List ℕ) (from : ℕ) (ys : List ℕ) : Type 0 where
    pub within : from ≤ length xs
    pub is : ys ≡ arranged cmp (take from xs) ++ drop from xs
    pub apart : AreApart xs from

  pub IsOrderedTo-none : (xs : List ℕ) → IsOrderedTo xs 0 xs
  IsOrderedTo-none xs = record { within = omega arith; is = refl; apart = λ i j d below within long. absurd (omega arith) }

  module _ (xs : List ℕ) (from : ℕ) (ys : List ℕ) (so_far : IsOrderedTo xs from ys) where
    long_front : length (arranged cmp (take from xs)) ≡ from
    long_front = length-arranged cmp (take from xs) ∙ length-take-le from xs so_far.within

    pub IsOrderedTo-length : length ys ≡ length xs
    IsOrderedTo-length = ap length so_far.is ∙ length-append (arranged cmp (take from xs)) (drop from xs) ∙ omega (arith, long_front, length-drop from xs, so_far.within)

    front_is : take from ys ≡ arranged cmp (take from xs)
    front_is =
        ap (take from) so_far.is
        ∙ ap (λ n. take n (arranged cmp (take from xs) ++ drop from xs)) (sym long_front)
        ∙ take-append_seam (arranged cmp (take from xs)) (drop from xs)

    back_is : drop from ys ≡ drop from xs
    back_is =
        ap (drop from) so_far.is
        ∙ ap (λ n. drop n (arranged cmp (take from xs) ++ drop from xs)) (sym long_front)
        ∙ drop-append_seam (arranged cmp (take from xs)) (drop from xs)

    -- a row from the place on is as it was
    same_at : (k d : ℕ) → from ≤ k → get_or ys k d ≡ get_or xs k d
    same_at k d behind =
        let at : from + (k - from) ≡ k = omega arith in
        ap (λ n. get_or ys n d) (sym at)
        ∙ sym (get_or-drop from ys (k - from) d)
        ∙ ap (λ rest. get_or rest (k - from) d) back_is
        ∙ get_or-drop from xs (k - from) d
        ∙ ap (λ n. get_or xs n d) at

    all_before : (to : ℕ) → AllByRecursion (IsBefore cmp (take (to - from) (drop from xs))) (take from xs)
    all_before to =
        recursion_from_All (IsBefore cmp (take (to - from) (drop from xs))) (take from xs) (λ i d below.
        recursion_from_All (λ y. cmp (get_or (take from xs) i d) y ≡ Less) (take (to - from) (drop from xs)) (λ k e within.
        let first : i < from = omega (arith, below, length-take-le from xs so_far.within) in
        let short : k < to - from = omega (arith, within, length-take (to - from) (drop from xs)) in
        let long : from + k < length xs = omega (arith, within, length-take (to - from) (drop from xs), length-drop from xs) in
        let x = get_or (take from xs) i d in
        let y = get_or (take (to - from) (drop from xs)) k e in
        let x_is : x ≡ get_or xs i e = get_or-take from xs i d first ∙ get_or_default xs i d e (omega arith) in
        let y_is : y ≡ get_or xs (from + k) e = get_or-take (to - from) (drop from xs) k e short ∙ get_or-drop from xs k e in
        less_first (prefix_of x) (prefix_of y) (place_cmp keys is_there row_at (row_of x) (row_of y))
        (rw (x_is, y_is) (so_far.apart i (from + k) e first (omega arith) long))))

    -- one stretch more is in order
    pub IsOrderedTo-more : (to : ℕ) (zs : List ℕ) → IsNonDecreasingBy prefix_of xs → from < to → to ≤ length ys → (to < length ys → prefix_of (get_or ys (to - 1) 0) ≢ prefix_of (get_or ys to 0))
        → zs ≡ take from ys ++ (arranged cmp (take (to - from) (drop from ys)) ++ drop to ys) → IsOrderedTo xs to zs
    IsOrderedTo-more to zs rising longer within differ given =
        let many : length ys ≡ length xs = IsOrderedTo-length in
        let part = take (to - from) (drop from xs) in
        let back : drop to ys ≡ drop to xs =
        drop_split ys from to (omega arith) (omega arith) ∙ ap (drop (to - from)) back_is ∙ sym (drop_split xs from to (omega arith) so_far.within) in
        record {
          within = omega arith;
          is =
              given
              ∙ ap (λ front. front ++ (arranged cmp (take (to - from) (drop from ys)) ++ drop to ys)) front_is
              ∙ ap (λ rest. arranged cmp (take from xs) ++ (arranged cmp (take (to - from) rest) ++ drop to ys)) back_is
              ∙ ap (λ rest. arranged cmp (take from xs) ++ (arranged cmp part ++ rest)) back
              ∙ sym (append_assoc (arranged cmp (take from xs)) (arranged cmp part) (drop to xs))
              ∙ ap (λ front. front ++ drop to xs) (sym (arranged-append cmp (take from xs) part (all_before to)))
              ∙ ap (λ front. arranged cmp front ++ drop to xs) (sym (take_split xs from to (omega arith) so_far.within));
          apart = λ i j d below behind long.
              let last : get_or ys (to - 1) 0 ≡ get_or xs (to - 1) 0 = same_at (to - 1) 0 (omega arith) in
              let next : get_or ys to 0 ≡ get_or xs to 0 = same_at to 0 (omega arith) in
              let split : prefix_of (get_or xs (to - 1) 0) < prefix_of (get_or xs to 0) =
              less_where (prefix_of (get_or xs (to - 1) 0)) (prefix_of (get_or xs to 0)) (rising (to - 1) to 0 (omega arith) (omega arith)) (λ same.
              differ (omega arith) (ap prefix_of last ∙ same ∙ ap prefix_of (sym next))) in
              let here : get_or xs i d ≡ get_or xs i 0 = get_or_default xs i d 0 (omega arith) in
              let there : get_or xs j d ≡ get_or xs j 0 = get_or_default xs j d 0 long in
              omega (arith, ap prefix_of here, ap prefix_of there, rising i (to - 1) 0 (omega arith) (omega arith), split, rising to j 0 behind long);
        }

  all_arranged_are : (xs : List ℕ) (from : ℕ) (ys : List ℕ) → length ys ≤ from → IsOrderedTo xs from ys → ys ≡ arranged cmp xs
  all_arranged_are xs from ys done so_far =
      let past : length xs ≤ from = omega (arith, IsOrderedTo-length xs from ys so_far) in
      so_far.is
      ∙ ap (λ rest. arranged cmp (take from xs) ++ rest) (drop_all from xs past)
      ∙ append-nil (arranged cmp (take from xs))
      ∙ ap (arranged cmp) (take_all from xs past)

  -- all of them are in order
  pub IsOrderedTo-all : (xs : List ℕ) (from : ℕ) (ys : List ℕ) → length ys ≤ from → IsOrderedTo xs from ys → IsArrangement cmp xs ys
  IsOrderedTo-all xs from ys done so_far = subst (IsArrangement cmp xs) (sym (all_arranged_are xs from ys done so_far)) (arrangement cmp cmp_total xs)
