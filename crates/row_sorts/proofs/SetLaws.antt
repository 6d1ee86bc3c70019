-- The rows at the places that a set operation takes are its rows.
use Rattle.std.proofs.Common.{◌≡◌, ◌∙◌, ◌≢◌, ℕ, suc, ◌+◌, ◌-◌, ◌<◌, List, [], ◌∷◌, ◌++◌, None, Bool, true, false, not, ◌&&◌, ◌||◌, ◌==◌, eqb, cond, ◌≤◌, length, map, min, take, drop, get_or, refl, sym, ap, append_assoc, arith}
use Rattle.std.specs.List.{filter, list_any, list_all, count_by, range_with_len}
use Rattle.std.proofs.lemmas.Simd.{map-map}
use Rattle.std.proofs.lemmas.List.Folds.{sum_by-zero}
use Rattle.std.proofs.lemmas.List.{append-nil, drop_more}
use Rattle.plan_typed.specs.declared.rel.SetOp.{SetOp}
use Rattle.plan_typed.specs.declared.rel.SetOp.TheVariants as ops
use Rattle.sub_types.specs.Stream.{Stream, rows_alone}
use Rattle.plan_denote.specs.Rows.{Row, unless_fault}
use Rattle.plan_denote.specs.Distinct.{is_same_row, distinct, is_in, occurrences}
use Rattle.plan_denote.specs.Sets.{row_at, fewest, first_fault, set_of, set_in, set_rows}
use Rattle.row_steps.specs.declared.stream.Stream as Mem
use Rattle.row_steps.specs.Seen.{seen}
use Rattle.row_sorts.specs.SetPlaces.{before, takes}
use Rattle.row_sorts.proofs.DistinctLaws.{is_new_at, filter_twice, filter_alike, distinct_by_places}
use Rattle.row_sorts.proofs.SameLaws.{same_rows}

-- none is counted where there is none
none_head : (b rest any : Bool) → rest ≡ not any → (eqb (cond b 1 0) 0 && rest) ≡ not (b || any)
none_head true rest any e = refl
none_head false rest any e = e

none_of_all : {A : Type 0} (p : A → Bool) (xs : List A) → list_all (λ x. eqb (cond (p x) 1 0) 0) xs ≡ not (list_any p xs)
none_of_all p [] = refl
none_of_all p (x ∷ xs) = none_head (p x) (list_all (λ y. eqb (cond (p y) 1 0) 0) xs) (list_any p xs) (none_of_all p xs)

none_counted : {A : Type 0} (p : A → Bool) (xs : List A) → (count_by p xs == 0) ≡ not (list_any p xs)
none_counted p xs = sum_by-zero (λ x. cond (p x) 1 0) xs ∙ none_of_all p xs

picked_one : {A : Type 0} (f : ℕ → A) (b : Bool) (k : ℕ) (xs : List A) (ks : List ℕ) → xs ≡ map f ks → cond b (f k ∷ xs) xs ≡ map f (cond b (k ∷ ks) ks)
picked_one f true k xs ks e = ap (λ l. f k ∷ l) e
picked_one f false k xs ks e = e

filter_picked : {A : Type 0} (p : A → Bool) (f : ℕ → A) (ks : List ℕ) → filter p (map f ks) ≡ map f (filter (λ k. p (f k)) ks)
filter_picked p f [] = refl
filter_picked p f (k ∷ ks) = picked_one f (p (f k)) k (filter p (map f ks)) (filter (λ j. p (f j)) ks) (filter_picked p f ks)

-- the rows that pass a test, each once
once_and : (p : Row → Bool) (first : List Row)
    → map (row_at first) (filter (λ place. (before first place == 0) && p (row_at first place)) (range_with_len 0 (length first))) ≡ filter p (distinct is_same_row first)
once_and p first =
    let places = range_with_len 0 (length first) in
    ap (map (row_at first))
    (filter_alike (λ place. (before first place == 0) && p (row_at first place)) (λ place. is_new_at is_same_row [] [] first place && p (row_at first place)) (λ place. ap (λ b. b && p (row_at first place)) (none_counted (is_same_row (row_at first place)) (take place first))) places
    ∙ sym (filter_twice (λ place. p (row_at first place)) (is_new_at is_same_row [] [] first) places))
    ∙ sym (filter_picked p (row_at first) (filter (is_new_at is_same_row [] [] first) places))
    ∙ sym (ap (filter p) (distinct_by_places same_rows [] first))

pub rows_at_places : (op : SetOp) (first : List Row) (others : List (List Row)) → (op ≢ ops.UnionDistinct) → (op ≢ ops.UnionAll) → map (row_at first) (filter (takes op first others) (range_with_len 0 (length first))) ≡ set_of op first others
rows_at_places ops.MinusPrimary first others h k = once_and (λ row. not (list_any (λ rows. is_in rows row) others)) first
rows_at_places ops.MinusPrimaryAll first others h k = refl
rows_at_places ops.IntersectionPrimary first others h k = once_and (λ row. list_any (λ rows. is_in rows row) others) first
rows_at_places ops.IntersectionMultiset first others h k = once_and (λ row. list_all (λ rows. is_in rows row) others) first
rows_at_places ops.IntersectionMultisetAll first others h k = refl
rows_at_places ops.UnionDistinct first others h k = absurd (h refl)
rows_at_places ops.UnionAll first others h k = absurd (k refl)

-- what is left of the places
abbrev pub at_left : {A : Type 0} → (ℕ → A) → (ℕ → Bool) → ℕ → ℕ → List A
at_left f test place end = map f (filter test (range_with_len place (end - place)))

split_head : {A : Type 0} (f : ℕ → A) (b : Bool) (place : ℕ) (ks : List ℕ) → map f (cond b (place ∷ ks) ks) ≡ cond b (f place ∷ map f ks) (map f ks)
split_head f true place ks = refl
split_head f false place ks = refl

next_left : {A : Type 0} (f : ℕ → A) (test : ℕ → Bool) (place end : ℕ) → place < end → at_left f test place end ≡ cond (test place) (f place ∷ at_left f test (place + 1) end) (at_left f test (place + 1) end)
next_left f test place end h =
    let more : end - place ≡ suc (end - (place + 1)) = omega arith in
    ap (λ n. map f (filter test (range_with_len place n))) more
    ∙ split_head f (test place) place (filter test (range_with_len (place + 1) (end - (place + 1))))

pub taken_left : {A : Type 0} (f : ℕ → A) (test : ℕ → Bool) (place end : ℕ) (row : A) (rows more all : List A) → place < end → test place ≡ true → row ≡ f place → more ≡ rows ++ row ∷ [] → rows ++ at_left f test place end ≡ all → more ++ at_left f test (place + 1) end ≡ all
taken_left f test place end row rows more all h t r m e =
    ap (λ l. l ++ at_left f test (place + 1) end) m
    ∙ append_assoc rows (row ∷ []) (at_left f test (place + 1) end)
    ∙ ap (λ x. rows ++ x ∷ at_left f test (place + 1) end) r
    ∙ sym (ap (λ l. rows ++ l) (next_left f test place end h ∙ ap (λ b. cond b (f place ∷ at_left f test (place + 1) end) (at_left f test (place + 1) end)) t))
    ∙ e

pub passed_left : {A : Type 0} (f : ℕ → A) (test : ℕ → Bool) (place end : ℕ) (rows more all : List A) → place < end → test place ≡ false → more ≡ rows → rows ++ at_left f test place end ≡ all → more ++ at_left f test (place + 1) end ≡ all
passed_left f test place end rows more all h t m e =
    ap (λ l. l ++ at_left f test (place + 1) end) m
    ∙ sym (ap (λ l. rows ++ l) (next_left f test place end h ∙ ap (λ b. cond b (f place ∷ at_left f test (place + 1) end) (at_left f test (place + 1) end)) t))
    ∙ e

pub all_left : {A : Type 0} (f : ℕ → A) (test : ℕ → Bool) (place end : ℕ) (rows all : List A) → end ≤ place → rows ++ at_left f test place end ≡ all → rows ≡ all
all_left f test place end rows all h e =
    let none : end - place ≡ 0 = omega arith in
    sym (append-nil rows) ∙ sym (ap (λ n. rows ++ map f (filter test (range_with_len place n))) none) ∙ e

-- the operations that need all rows of their inputs
pub of_whole : (op : SetOp) (inputs : List (Stream Row)) → (op ≢ ops.UnionAll) → set_rows op inputs ≡ unless_fault (first_fault inputs) (rows_alone (set_in op (map (λ input. input.rows) inputs)))
unfolding set_rows
of_whole ops.MinusPrimary inputs h = refl
of_whole ops.MinusPrimaryAll inputs h = refl
of_whole ops.IntersectionPrimary inputs h = refl
of_whole ops.IntersectionMultiset inputs h = refl
of_whole ops.IntersectionMultisetAll inputs h = refl
of_whole ops.UnionDistinct inputs h = refl
of_whole ops.UnionAll inputs h = absurd (h refl)

pub no_fault : (op : SetOp) (inputs : List (Mem.Stream Row)) (rows : List (List Row)) (all : List Row) → None ≡ first_fault (map seen inputs) → rows ≡ map (λ input. input.rows) inputs → all ≡ set_in op rows
    → rows_alone all ≡ unless_fault (first_fault (map seen inputs)) (rows_alone (set_in op (map (λ input. input.rows) (map seen inputs))))
no_fault op inputs rows all f r a =
    ap rows_alone (a ∙ ap (set_in op) (r ∙ sym (map-map (λ (s : Stream Row). s.rows) seen inputs)))
    ∙ ap (λ found. unless_fault found (rows_alone (set_in op (map (λ input. input.rows) (map seen inputs))))) f

-- the least so far, and of what is left
min_swap : (a b c : ℕ) → min a (min b c) ≡ min b (min a c)
min_swap a b c = omega arith

fewest_of_min : (many n : ℕ) (inputs : List (List Row)) (row : Row) → fewest (min many n) inputs row ≡ min n (fewest many inputs row)
fewest_of_min many n [] row = omega arith
fewest_of_min many n (rows ∷ inputs) row = ap (min (occurrences rows row)) (fewest_of_min many n inputs row) ∙ min_swap (occurrences rows row) n (fewest many inputs row)

pub fewest_left : (least more : ℕ) (inputs : List (List Row)) (place : ℕ) (rows : List Row) (row : Row) (all : ℕ) → place < length inputs → rows ≡ get_or inputs place rows → more ≡ min least (occurrences rows row) → fewest least (drop place inputs) row ≡ all → fewest more (drop (place + 1) inputs) row ≡ all
fewest_left least more inputs place rows row all h is m e =
    ap (λ n. fewest n (drop (place + 1) inputs) row) m
    ∙ fewest_of_min least (occurrences rows row) (drop (place + 1) inputs) row
    ∙ sym (ap (λ l. fewest least l row) (drop_more inputs place rows h ∙ ap (λ x. x ∷ drop (place + 1) inputs) (sym is)))
    ∙ e
