-- Marks of the rows of the first input, class by class.
use Rattle.std.proofs.Common.{◌≡◌, ◌∙◌, ℕ, zero, suc, ◌+◌, ◌-◌, ◌<◌, ◌≤◌, List, [], ◌∷◌, ◌++◌, Bool, true, false, ◌&&◌, ◌||◌, cond, length, map, min, take, set, get_or, nat_lt, nat_eq, replicate, refl, sym, ap, ap₂, arith, inl, inr}
use Rattle.std.specs.List.{fold, filter, list_any, range_with_len}
use Rattle.std.proofs.lemmas.Bool.{cases_eq, lt-ltb, eq-eqb, ne_eqb}
use Rattle.std.proofs.lemmas.List.Elements.{filter-append}
use Rattle.std.proofs.lemmas.List.{append-nil, length-set, get_or-set_same, get_or-set_other, get_or-replicate, length-replicate}
use Rattle.std.proofs.lemmas.List.Folds.{list_any-append}
use Rattle.std.proofs.lemmas.List.FromFn.{fill_by_all, get_or-map-range_with_len, length-map-range_with_len}
use Rattle.plan_typed.specs.declared.rel.SetOp.{SetOp}
use Rattle.hash_chains.specs.First.{rows_where}
use Rattle.set_places.specs.declared.marks.Mark.{Mark}
use Rattle.set_places.specs.declared.marks.Mark.TheVariants.{Open, Passed, Taken}
use Rattle.set_places.specs.Marks.{mark_of, is_open, is_taken, marked}
use Rattle.set_places.specs.Taken.{times, times_each, AreEnds, allowed, takes}
use Rattle.set_places.proofs.TimesLaws.{upto, times-zero, times-split, among, range-split, same_test, filter-agree_in}
use Rattle.set_places.proofs.CountLaws.{ends_within}

-- marks put at some rows
abbrev pub put : Mark → List Mark → ℕ → List Mark
put mark all row = set all row mark

pub length-put : (mark : Mark) (rows : List ℕ) (all : List Mark) → length (fold (put mark) all rows) ≡ length all
length-put mark [] all = refl
length-put mark (row ∷ rows) all = length-put mark rows (set all row mark) ∙ length-set all row mark

either : {A : Type 0} (b : Bool) (x : A) → cond b x x ≡ x
either true x = refl
either false x = refl

get-put : (mark d : Mark) (p : ℕ) (rows : List ℕ) (all : List Mark) → p < length all → get_or (fold (put mark) all rows) p d ≡ cond (list_any (λ k. nat_eq k p) rows) mark (get_or all p d)
get-put mark d p [] all h = refl
get-put mark d p (row ∷ rows) all h =
    let any = list_any (λ k. nat_eq k p) rows in
    get-put mark d p rows (set all row mark) (omega (arith, length-set all row mark))
    ∙ elim (cases_eq row p) [
      | inl e ↦
          ap (λ x. cond any mark x) (ap (λ i. get_or (set all row mark) i d) (sym e) ∙ get_or-set_same all row mark d (omega (arith, e)))
          ∙ either any mark ∙ sym (ap (λ t. cond (t || any) mark (get_or all p d)) (eq-eqb row p e))
      | inr ne ↦
          ap (λ x. cond any mark x) (get_or-set_other all row p mark d (λ f. ne (sym f)))
          ∙ sym (ap (λ t. cond (t || any) mark (get_or all p d)) (ne_eqb row p ne))
    ]

-- a row that passes counts among those up to a later one
strictly : (test : ℕ → Bool) (p end : ℕ) → test p ≡ true → p < end → upto test p < upto test end
strictly test p end is h =
    let more = times-split test p end (omega arith) in
    let one : times test p end ≡ suc (length (filter test (range_with_len (p + 1) (end - (p + 1))))) =
    ap (λ n. length (filter test (range_with_len p n))) (let e : end - p ≡ suc (end - (p + 1)) = omega arith in e)
    ∙ ap (λ b. length (cond b (p ∷ filter test (range_with_len (p + 1) (end - (p + 1)))) (filter test (range_with_len (p + 1) (end - (p + 1)))))) is in
    omega arith

-- the rows that are alike: the first so many are taken, and the others passed
choose : (test : ℕ → Bool) (p first many allow : ℕ) (old : Mark) (b : Bool) → test p ≡ b → p < first → many ≡ upto test first
    → cond (b && nat_lt (upto test p) (min allow many)) Taken (cond (b && nat_lt (upto test p) many) Passed old) ≡ cond b (mark_of (nat_lt (upto test p) allow)) old
choose test p first many allow old true is h m =
    let less = strictly test p first is h in
    ap₂ (λ t u. cond t Taken (cond u Passed old)) (same_test (upto test p) (min allow many) (upto test p) allow (λ h. omega arith) (λ h. omega arith)) (lt-ltb (upto test p) many (omega arith))
    ∙ taken_or_passed (nat_lt (upto test p) allow)
  where
    taken_or_passed : (t : Bool) → cond t Taken Passed ≡ mark_of t
    taken_or_passed true = refl
    taken_or_passed false = refl
choose test p first many allow old false is h m = refl

pub marks_are : (test : ℕ → Bool) (count first many taken allow : ℕ) (alike : List ℕ) (old front new : List Mark) → alike ≡ rows_where test count → first ≤ count → many ≡ times test 0 first → taken ≡ min allow many → length old ≡ first
    → front ≡ fold (put Passed) old (take many alike) → new ≡ fold (put Taken) front (take taken alike)
    → new ≡ map (λ row. cond (test row) (mark_of (nat_lt (times test 0 row) allow)) (get_or old row Open)) (range_with_len 0 first)
marks_are test count first many taken allow alike old front new is within many_is taken_is sized passed took =
    let many_up : many ≡ upto test first = many_is ∙ times-zero test first in
    let front_long : length front ≡ length old = ap length passed ∙ length-put Passed (take many alike) old in
    fill_by_all (λ row. cond (test row) (mark_of (nat_lt (times test 0 row) allow)) (get_or old row Open)) new first Open
    (ap length took ∙ length-put Taken (take taken alike) front ∙ front_long ∙ sized)
    (λ p h.
    let in_taken : list_any (λ k. nat_eq k p) (take taken alike) ≡ test p && nat_lt (upto test p) (min allow many) =
    ap₂ (λ m rows. list_any (λ k. nat_eq k p) (take m rows)) taken_is is ∙ among test count p (min allow many) 0 p (omega arith) (omega arith) in
    let in_many : list_any (λ k. nat_eq k p) (take many alike) ≡ test p && nat_lt (upto test p) many =
    ap (λ rows. list_any (λ k. nat_eq k p) (take many rows)) is ∙ among test count p many 0 p (omega arith) (omega arith) in
    ap (λ marks. get_or marks p Open) took
    ∙ get-put Taken Open p (take taken alike) front (omega arith)
    ∙ ap (λ m. cond (list_any (λ k. nat_eq k p) (take taken alike)) Taken m) (ap (λ marks. get_or marks p Open) passed ∙ get-put Passed Open p (take many alike) old (omega arith))
    ∙ ap₂ (λ t u. cond t Taken (cond u Passed (get_or old p Open))) in_taken in_many
    ∙ choose test p first many allow (get_or old p Open) (test p) refl h many_up
    ∙ ap (λ n. cond (test p) (mark_of (nat_lt n allow)) (get_or old p Open)) (sym (times-zero test p)))

-- the rows so far that are taken, and one more
pub where_more : (test : ℕ → Bool) (n : ℕ) → rows_where test (n + 1) ≡ rows_where test n ++ cond (test n) (n ∷ []) []
where_more test n = ap (filter test) (range-split n 0 1 (n + 1) n refl (omega arith)) ∙ filter-append test (range_with_len 0 n) (n ∷ [])

pub where_taken : (test : ℕ → Bool) (n : ℕ) (old new : List ℕ) → test n ≡ true → new ≡ old ++ n ∷ [] → old ≡ rows_where test n → new ≡ rows_where test (n + 1)
where_taken test n old new is more so_far =
    more ∙ ap (λ l. l ++ n ∷ []) so_far ∙ sym (ap (λ b. rows_where test n ++ cond b (n ∷ []) []) is) ∙ sym (where_more test n)

pub where_passed : (test : ℕ → Bool) (n : ℕ) (old : List ℕ) → test n ≡ false → old ≡ rows_where test n → old ≡ rows_where test (n + 1)
where_passed test n old is so_far =
    so_far ∙ sym (append-nil (rows_where test n)) ∙ sym (ap (λ b. rows_where test n ++ cond b (n ∷ []) []) is) ∙ sym (where_more test n)

-- a mark that isn't open
pub was_not_open : (mark : Mark) → is_open mark ≡ false → mark ≡ Open → ⊥
was_not_open Open e f = cc
was_not_open Passed e f = cc
was_not_open Taken e f = cc

-- a test of which rows are the same
pub record IsAlike (same : ℕ → ℕ → Bool) (n : ℕ) : Type 0 where
  pub own : (i : ℕ) → i < n → same i i ≡ true
  pub again : (i j k : ℕ) → same i j ≡ true → same j k ≡ same i k

both_ways : (a b : Bool) → (a ≡ true → b ≡ true) → (b ≡ true → a ≡ true) → a ≡ b
both_ways true b to back = sym (to refl)
both_ways false true to back = back refl
both_ways false false to back = refl

any-agree_in : (p q : ℕ → Bool) (n a : ℕ) → ((k : ℕ) → a ≤ k → k < a + n → p k ≡ q k) → list_any p (range_with_len a n) ≡ list_any q (range_with_len a n)
any-agree_in p q zero a h = refl
any-agree_in p q (suc n) a h = ap₂ (λ x y. x || y) (h a (omega arith) (omega arith)) (any-agree_in p q n (a + 1) (λ k low high. h k (omega arith) (omega arith)))

any_more : (f : ℕ → Bool) (n : ℕ) → list_any f (range_with_len 0 (n + 1)) ≡ list_any f (range_with_len 0 n) || (f n || false)
any_more f n = ap (list_any f) (range-split n 0 1 (n + 1) n refl (omega arith)) ∙ list_any-append f (range_with_len 0 n) (n ∷ [])

or_true : (a : Bool) → a || (true || false) ≡ true
or_true true = refl
or_true false = refl

or_false : (a : Bool) → a || (false || false) ≡ a
or_false true = refl
or_false false = refl

true_or : (a b : Bool) → a ≡ true → a || b ≡ true
true_or true b e = refl
true_or false b e = absurd (cc)

any_at : (f : ℕ → Bool) (n p : ℕ) → p < n → f p ≡ true → list_any f (range_with_len 0 n) ≡ true
any_at f n p h is =
    ap (list_any f) (range-split (p + 1) 0 (n - (p + 1)) n (p + 1) (omega arith) (omega arith))
    ∙ list_any-append f (range_with_len 0 (p + 1)) (range_with_len (p + 1) (n - (p + 1)))
    ∙ true_or (list_any f (range_with_len 0 (p + 1))) (list_any f (range_with_len (p + 1) (n - (p + 1)))) (any_more f p ∙ ap (λ b. list_any f (range_with_len 0 p) || (b || false)) is ∙ or_true (list_any f (range_with_len 0 p)))

module _ (same : ℕ → ℕ → Bool) (count : ℕ) (alike : IsAlike same count) (op : SetOp) (first : ℕ) (others : List ℕ) (are : AreEnds first others count) where
  symm : (i j : ℕ) → i < count → j < count → same i j ≡ same j i
  symm i j h k =
      both_ways (same i j) (same j i) (λ e. alike.again i j i e ∙ alike.own i h) (λ e. alike.again j i j e ∙ alike.own j k)

  abbrev test : ℕ → Bool
  test = takes same op first others

  -- what is the same is the same as the same rows
  times_alike : (r p from end : ℕ) → same r p ≡ true → from ≤ end → times (same p) from end ≡ times (same r) from end
  times_alike r p from end e h = ap length (filter-agree_in (same p) (same r) (end - from) from (λ k low high. alike.again r p k e))

  each_alike : (r p from : ℕ) (ends : List ℕ) → same r p ≡ true → AreEnds from ends count → times_each (same p) from ends ≡ times_each (same r) from ends
  each_alike r p from [] e a = refl
  each_alike r p from (end ∷ ends) e a = ap₂ (λ n rest. n ∷ rest) (times_alike r p from end e a.0) (each_alike r p end ends e a.1)

  takes_alike : (r p : ℕ) → same r p ≡ true → nat_lt (times (same r) 0 p) (allowed op (times (same r) 0 first) (times_each (same r) first others)) ≡ test p
  takes_alike r p e =
      ap₂ nat_lt (sym (times_alike r p 0 p e (omega arith)))
      (ap₂ (allowed op) (sym (times_alike r p 0 first e (omega arith))) (sym (each_alike r p first others e are)))

  any_alike : (r p so_far : ℕ) → same r p ≡ true → r < count → p < count → so_far ≤ count → list_any (λ k. same k p) (range_with_len 0 so_far) ≡ list_any (λ k. same k r) (range_with_len 0 so_far)
  any_alike r p so_far e h i within =
      any-agree_in (λ k. same k p) (λ k. same k r) so_far 0 (λ k low high.
      symm k p (omega arith) i ∙ alike.again r p k e ∙ symm r k h (omega arith))

  pub marks_begin : (marks : List Mark) → marks ≡ replicate first Open → marks ≡ map (marked same test 0) (range_with_len 0 first)
  marks_begin marks e =
      fill_by_all (marked same test 0) marks first Open (ap length e ∙ length-replicate first Open) (λ p h. ap (λ m. get_or m p Open) e ∙ get_or-replicate first p Open Open h)

  -- a row like none so far
  open_step : (r p : ℕ) (b : Bool) → same r p ≡ b → (now : Mark) → now ≡ marked same test r p
      → cond b (mark_of (nat_lt (times (same r) 0 p) (allowed op (times (same r) 0 first) (times_each (same r) first others)))) now ≡ marked same test (r + 1) p
  open_step r p true e now is =
      ap mark_of (takes_alike r p e)
      ∙ sym (ap (λ t. cond t (mark_of (test p)) Open) (any_more (λ k. same k p) r ∙ ap (λ b. list_any (λ k. same k p) (range_with_len 0 r) || (b || false)) e ∙ or_true (list_any (λ k. same k p) (range_with_len 0 r))))
  open_step r p false e now is =
      is ∙ sym (ap (λ t. cond t (mark_of (test p)) Open) (any_more (λ k. same k p) r ∙ ap (λ b. list_any (λ k. same k p) (range_with_len 0 r) || (b || false)) e ∙ or_false (list_any (λ k. same k p) (range_with_len 0 r))))

  pub marks_open : (r : ℕ) (old new : List Mark) → old ≡ map (marked same test r) (range_with_len 0 first)
      → new ≡ map (λ row. cond (same r row) (mark_of (nat_lt (times (same r) 0 row) (allowed op (times (same r) 0 first) (times_each (same r) first others)))) (get_or old row Open)) (range_with_len 0 first)
      → new ≡ map (marked same test (r + 1)) (range_with_len 0 first)
  marks_open r old new so_far step =
      let f : ℕ → Mark = λ row. cond (same r row) (mark_of (nat_lt (times (same r) 0 row) (allowed op (times (same r) 0 first) (times_each (same r) first others)))) (get_or old row Open) in
      fill_by_all (marked same test (r + 1)) new first Open (ap length step ∙ length-map-range_with_len f 0 first) (λ p h.
      ap (λ m. get_or m p Open) step ∙ get_or-map-range_with_len f 0 first p p Open h (omega arith)
      ∙ open_step r p (same r p) refl (get_or old p Open) (ap (λ m. get_or m p Open) so_far ∙ get_or-map-range_with_len (marked same test r) 0 first p p Open h (omega arith)))

  -- a row like one before
  was_open : (b : Bool) (m : Mark) → (cond b m Open ≡ Open → ⊥) → b ≡ true
  was_open true m h = refl
  was_open false m h = absurd (h refl)

  known_step : (r p : ℕ) (b : Bool) → same r p ≡ b → r < first → p < first → list_any (λ k. same k r) (range_with_len 0 r) ≡ true → marked same test r p ≡ marked same test (r + 1) p
  known_step r p true e h i known =
      let low = ends_within first others count are in
      let any : list_any (λ k. same k p) (range_with_len 0 r) ≡ true = any_alike r p r e (omega arith) (omega arith) (omega arith) ∙ known in
      ap (λ t. cond t (mark_of (test p)) Open) (any ∙ sym (any_more (λ k. same k p) r ∙ true_or (list_any (λ k. same k p) (range_with_len 0 r)) (same r p || false) any))
  known_step r p false e h i known =
      sym (ap (λ t. cond t (mark_of (test p)) Open) (any_more (λ k. same k p) r ∙ ap (λ b. list_any (λ k. same k p) (range_with_len 0 r) || (b || false)) e ∙ or_false (list_any (λ k. same k p) (range_with_len 0 r))))

  pub marks_known : (r : ℕ) (marks : List Mark) → r < first → marks ≡ map (marked same test r) (range_with_len 0 first) → (get_or marks r Open ≡ Open → ⊥) → marks ≡ map (marked same test (r + 1)) (range_with_len 0 first)
  marks_known r marks h so_far not_open =
      let at_r : get_or marks r Open ≡ marked same test r r = ap (λ m. get_or m r Open) so_far ∙ get_or-map-range_with_len (marked same test r) 0 first r r Open h (omega arith) in
      let known = was_open (list_any (λ k. same k r) (range_with_len 0 r)) (mark_of (test r)) (λ e. not_open (at_r ∙ e)) in
      fill_by_all (marked same test (r + 1)) marks first Open (ap length so_far ∙ length-map-range_with_len (marked same test r) 0 first) (λ p i.
      ap (λ m. get_or m p Open) so_far ∙ get_or-map-range_with_len (marked same test r) 0 first p p Open i (omega arith)
      ∙ known_step r p (same r p) refl h i known)

  -- at the end each row is marked as it is taken
  taken_back : (b : Bool) → is_taken (mark_of b) ≡ b
  taken_back true = refl
  taken_back false = refl

  pub marks_end : (so_far : ℕ) (marks : List Mark) (rows : List ℕ) → first ≤ so_far → so_far ≤ first → marks ≡ map (marked same test so_far) (range_with_len 0 first)
      → rows ≡ rows_where (λ row. is_taken (get_or marks row Open)) (length marks) → rows ≡ rows_where test first
  marks_end so_far marks rows h k all is =
      let low = ends_within first others count are in
      is ∙ ap (λ n. rows_where (λ row. is_taken (get_or marks row Open)) n) (ap length all ∙ length-map-range_with_len (marked same test so_far) 0 first)
      ∙ filter-agree_in (λ row. is_taken (get_or marks row Open)) test first 0 (λ p l i.
      ap is_taken (ap (λ m. get_or m p Open) all ∙ get_or-map-range_with_len (marked same test so_far) 0 first p p Open (omega arith) (omega arith)
      ∙ ap (λ t. cond t (mark_of (test p)) Open) (any_at (λ k. same k p) so_far p (omega arith) (alike.own p (omega arith))))
      ∙ taken_back (test p))
