-- The rows that are taken are those of the operation.
use Rattle.std.proofs.Common.{◌≡◌, ◌∙◌, ◌≢◌, ℕ, zero, suc, ◌+◌, ◌-◌, ◌<◌, ◌≤◌, List, [], ◌∷◌, ◌++◌, Bool, true, false, not, ◌&&◌, ◌||◌, cond, length, map, min, take, drop, get_or, nat_lt, refl, sym, ap, ap₂, arith}
use Rattle.std.specs.List.{filter, flat_map, list_any, list_all, range_with_len, sum, count_by}
use Rattle.std.proofs.lemmas.Bool.{lt-ltb, le-ltb}
use Rattle.std.proofs.lemmas.List.{append-nil, length-append, length-map, length-drop, map-append, take_at, drop_at, drop-drop, drop_more, take_more, take_all, get_or_append_left, take-append-le}
use Rattle.std.proofs.lemmas.List.Elements.{filter-append}
use Rattle.std.proofs.lemmas.List.Folds.{fold-map}
use Rattle.std.proofs.lemmas.List.Sums.{sum_by-cons, length-filter}
use Rattle.plan_typed.specs.declared.rel.SetOp.{SetOp}
use Rattle.plan_typed.specs.declared.rel.SetOp.TheVariants as ops
use Rattle.plan_denote.specs.Rows.{Row}
use Rattle.plan_denote.specs.Distinct.{is_same_row, distinct, is_in, occurrences}
use Rattle.plan_denote.specs.Sets.{row_at, is_among, occurrences_in, fewest, set_of}
use Rattle.group_laws.proofs.SameLaws.{same_rows}
use Rattle.group_laws.proofs.DistinctLaws.{is_new, distinct-append}
use Rattle.hash_chains.specs.First.{rows_where}
use Rattle.set_places.specs.Taken.{times, times_each, ends_from, least, allowed, takes, same_in}
use Rattle.set_places.proofs.TimesLaws.{same_test, filter-agree_in, range-split}

-- a filter of what places hold
picked_one : {A : Type 0} (f : ℕ → A) (b : Bool) (k : ℕ) (xs : List A) (ks : List ℕ) → xs ≡ map f ks → cond b (f k ∷ xs) xs ≡ map f (cond b (k ∷ ks) ks)
picked_one f true k xs ks e = ap (λ l. f k ∷ l) e
picked_one f false k xs ks e = e

filter_picked : {A : Type 0} (p : A → Bool) (f : ℕ → A) (ks : List ℕ) → filter p (map f ks) ≡ map f (filter (λ k. p (f k)) ks)
filter_picked p f [] = refl
filter_picked p f (k ∷ ks) = picked_one f (p (f k)) k (filter p (map f ks)) (filter (λ j. p (f j)) ks) (filter_picked p f ks)

part_at : (all : List Row) (n a : ℕ) → a + n ≤ length all → map (row_at all) (range_with_len a n) ≡ take n (drop a all)
part_at all zero a h = refl
part_at all (suc n) a h = ap (λ rest. row_at all a ∷ rest) (part_at all n (a + 1) (omega arith)) ∙ sym (ap (take (suc n)) (drop_more all a [] (omega arith)))

-- how often a row is among some rows one behind the other
times_are : (p : Row → Bool) (all : List Row) (from end : ℕ) → from ≤ end → end ≤ length all → times (λ k. p (row_at all k)) from end ≡ count_by p (take (end - from) (drop from all))
times_are p all from end h within =
    sym (length-map (filter (λ k. p (row_at all k)) (range_with_len from (end - from))) (row_at all))
    ∙ ap length (sym (filter_picked p (row_at all) (range_with_len from (end - from))) ∙ ap (filter p) (part_at all (end - from) from (omega arith)))
    ∙ length-filter p (take (end - from) (drop from all))

each_is : (p : Row → Bool) (all : List Row) (from : ℕ) (inputs : List (List Row)) → from ≤ length all → drop from all ≡ flat_map (λ rows. rows) inputs → times_each (λ k. p (row_at all k)) from (ends_from from inputs) ≡ map (count_by p) inputs
each_is p all from [] h e = refl
each_is p all from (rows ∷ inputs) h e =
    let rest = flat_map (λ (one : List Row). one) inputs in
    let end = from + length rows in
    let long : length all ≡ from + (length rows + length rest) = omega (arith, length-drop from all, ap length e, length-append rows rest) in
    let size : end - from ≡ length rows = omega arith in
    let after : drop end all ≡ rest = sym (drop-drop (length rows) from all) ∙ ap (drop (length rows)) e ∙ drop_at rows rest (length rows) refl in
    ap₂ (λ n more. n ∷ more)
    (times_are p all from end (omega arith) (omega arith) ∙ ap (count_by p) (ap₂ take size e ∙ take_at rows rest (length rows) refl))
    (each_is p all end inputs (omega arith) after)

-- numbers of occurrences
total_is : (others : List (List Row)) (row : Row) → sum (map (count_by (is_same_row row)) others) ≡ occurrences_in others row
total_is others row = fold-map (λ (a n : ℕ). a + n) (count_by (is_same_row row)) 0 others

min_swap : (a b c : ℕ) → min a (min b c) ≡ min b (min a c)
min_swap a b c = omega arith

fewest_of_min : (many n : ℕ) (inputs : List (List Row)) (row : Row) → fewest (min many n) inputs row ≡ min n (fewest many inputs row)
fewest_of_min many n [] row = omega arith
fewest_of_min many n (rows ∷ inputs) row = ap (min (occurrences rows row)) (fewest_of_min many n inputs row) ∙ min_swap (occurrences rows row) n (fewest many inputs row)

least_is : (many : ℕ) (others : List (List Row)) (row : Row) → least many (map (count_by (is_same_row row)) others) ≡ fewest many others row
least_is many [] row = refl
least_is many (rows ∷ others) row = least_is (min many (occurrences rows row)) others row ∙ fewest_of_min many (occurrences rows row) others row

count_head : {A : Type 0} (p : A → Bool) (b : Bool) (n : ℕ) (any : Bool) → nat_lt 0 n ≡ any → nat_lt 0 (cond b 1 0 + n) ≡ b || any
count_head p true n any e = lt-ltb 0 (1 + n) (omega arith)
count_head p false n any e = same_test 0 (0 + n) 0 n (λ h. omega arith) (λ h. omega arith) ∙ e

some_counted : {A : Type 0} (p : A → Bool) (xs : List A) → nat_lt 0 (count_by p xs) ≡ list_any p xs
some_counted p [] = le-ltb 0 0 (omega arith)
some_counted p (x ∷ xs) = ap (nat_lt 0) (sum_by-cons (λ y. cond (p y) 1 0) x xs) ∙ count_head p (p x) (count_by p xs) (list_any p xs) (some_counted p xs)

both_some : (m n : ℕ) → nat_lt 0 (m + n) ≡ nat_lt 0 m || nat_lt 0 n
both_some zero n = same_test 0 (0 + n) 0 n (λ h. omega arith) (λ h. omega arith) ∙ sym (ap (λ t. t || nat_lt 0 n) (le-ltb 0 0 (omega arith)))
both_some (suc m) n = lt-ltb 0 (suc m + n) (omega arith) ∙ sym (ap (λ t. t || nat_lt 0 n) (lt-ltb 0 (suc m) (omega arith)))

some_in : (others : List (List Row)) (row : Row) → nat_lt 0 (occurrences_in others row) ≡ list_any (λ rows. is_in rows row) others
some_in [] row = le-ltb 0 0 (omega arith)
some_in (rows ∷ others) row =
    ap (nat_lt 0) (sum_by-cons (λ (one : List Row). occurrences one row) rows others)
    ∙ both_some (occurrences rows row) (occurrences_in others row)
    ∙ ap₂ (λ a b. a || b) (some_counted (is_same_row row) rows) (some_in others row)

-- once, where something holds
and_false : (a : Bool) → false ≡ a && false
and_false true = refl
and_false false = refl

and_true : (a : Bool) → a ≡ a && true
and_true true = refl
and_true false = refl

once_if : (b : Bool) (so_far n : ℕ) → (b ≡ true → n ≡ 1) → (b ≡ false → n ≡ 0) → nat_lt so_far n ≡ nat_lt so_far 1 && b
once_if true so_far n holds fails = ap (nat_lt so_far) (holds refl) ∙ and_true (nat_lt so_far 1)
once_if false so_far n holds fails = ap (nat_lt so_far) (fails refl) ∙ le-ltb so_far 0 (omega arith) ∙ and_false (nat_lt so_far 1)

not_true : (b : Bool) → not b ≡ true → b ≡ false
not_true true e = absurd (cc)
not_true false e = refl

not_false : (b : Bool) → not b ≡ false → b ≡ true
not_false true e = refl
not_false false e = absurd (cc)

some_more : (n : ℕ) (b : Bool) → nat_lt 0 n ≡ b → b ≡ true → 1 ≤ n
some_more zero b e f = absurd (let g : nat_lt 0 0 ≡ false = le-ltb 0 0 (omega arith) in cc)
some_more (suc n) b e f = omega arith

no_more : (n : ℕ) (b : Bool) → nat_lt 0 n ≡ b → b ≡ false → n ≡ 0
no_more zero b e f = refl
no_more (suc n) b e f = absurd (let g : nat_lt 0 (suc n) ≡ true = lt-ltb 0 (suc n) (omega arith) in cc)

minus_once : (so_far : ℕ) (others : List (List Row)) (row : Row) → nat_lt so_far (1 - occurrences_in others row) ≡ nat_lt so_far 1 && not (list_any (λ rows. is_in rows row) others)
minus_once so_far others row =
    let any = list_any (λ (rows : List Row). is_in rows row) others in
    let n = occurrences_in others row in
    once_if (not any) so_far (1 - n)
    (λ e. let z : n ≡ 0 = no_more n any (some_in others row) (not_true any e) in omega arith)
    (λ e. let m : 1 ≤ n = some_more n any (some_in others row) (not_false any e) in omega arith)

some_once : (so_far : ℕ) (others : List (List Row)) (row : Row) → nat_lt so_far (min (occurrences_in others row) 1) ≡ nat_lt so_far 1 && list_any (λ rows. is_in rows row) others
some_once so_far others row =
    let any = list_any (λ (rows : List Row). is_in rows row) others in
    let n = occurrences_in others row in
    once_if any so_far (min n 1)
    (λ e. let m : 1 ≤ n = some_more n any (some_in others row) e in omega arith)
    (λ e. let z : n ≡ 0 = no_more n any (some_in others row) e in omega arith)

fewest_one : (others : List (List Row)) (row : Row) → (list_all (λ rows. is_in rows row) others ≡ true → fewest 1 others row ≡ 1) × (list_all (λ rows. is_in rows row) others ≡ false → fewest 1 others row ≡ 0)
fewest_one [] row = (λ e. refl, λ e. absurd (cc))
fewest_one (rows ∷ others) row = fewest_head (is_in rows row) (list_all (λ one. is_in one row) others) (occurrences rows row) (fewest 1 others row) (some_counted (is_same_row row) rows) (fewest_one others row)
  where
    fewest_head : (here rest : Bool) (n m : ℕ) → nat_lt 0 n ≡ here → ((rest ≡ true → m ≡ 1) × (rest ≡ false → m ≡ 0)) → (here && rest ≡ true → min n m ≡ 1) × (here && rest ≡ false → min n m ≡ 0)
    fewest_head true true n m e f = (λ g. let one : m ≡ 1 = f.0 refl in let some : 1 ≤ n = some_more n true e refl in omega arith, λ g. absurd (cc))
    fewest_head true false n m e f = (λ g. absurd (cc), λ g. let none : m ≡ 0 = f.1 refl in omega arith)
    fewest_head false rest n m e f = (λ g. absurd (cc), λ g. let none : n ≡ 0 = no_more n false e refl in omega arith)

all_once : (so_far : ℕ) (others : List (List Row)) (row : Row) → nat_lt so_far (fewest 1 others row) ≡ nat_lt so_far 1 && list_all (λ rows. is_in rows row) others
all_once so_far others row =
    once_if (list_all (λ rows. is_in rows row) others) so_far (fewest 1 others row) (fewest_one others row).0 (fewest_one others row).1

-- each row once, by places
abbrev before : List Row → ℕ → ℕ
before first place = occurrences (take place first) (row_at first place)

new_is : (first : List Row) (place : ℕ) → nat_lt (before first place) 1 ≡ is_new is_same_row (take place first) (row_at first place)
new_is first place = first_is (before first place) (list_any (is_same_row (row_at first place)) (take place first)) (some_counted (is_same_row (row_at first place)) (take place first))
  where
    first_is : (n : ℕ) (b : Bool) → nat_lt 0 n ≡ b → nat_lt n 1 ≡ not b
    first_is zero b e = lt-ltb 0 1 (omega arith) ∙ ap not (sym (le-ltb 0 0 (omega arith)) ∙ e)
    first_is (suc n) b e = le-ltb (suc n) 1 (omega arith) ∙ ap not (sym (lt-ltb 0 (suc n) (omega arith)) ∙ e)

one_new : (f : ℕ → Row) (p : Row → Bool) (new passes : Bool) (place : ℕ) (row : Row) → f place ≡ row → p row ≡ passes → map f (cond (new && passes) (place ∷ []) []) ≡ filter p (cond new (row ∷ []) [])
one_new f p true true place row e g = ap (λ r. r ∷ []) e ∙ sym (ap (λ b. cond b (row ∷ []) []) g)
one_new f p true false place row e g = sym (ap (λ b. cond b (row ∷ []) []) g)
one_new f p false passes place row e g = refl

once_upto : (p : Row → Bool) (first : List Row) (n : ℕ) → n ≤ length first → map (row_at first) (filter (λ place. nat_lt (before first place) 1 && p (row_at first place)) (range_with_len 0 n)) ≡ filter p (distinct is_same_row (take n first))
once_upto p first zero h = refl
once_upto p first (suc n) h =
    let test : ℕ → Bool = λ place. nat_lt (before first place) 1 && p (row_at first place) in
    let front = take n first in
    let row = row_at first n in
    ap (λ places. map (row_at first) (filter test places)) (range-split n 0 1 (suc n) n (omega arith) (omega arith))
    ∙ ap (map (row_at first)) (filter-append test (range_with_len 0 n) (n ∷ []))
    ∙ map-append (row_at first) (filter test (range_with_len 0 n)) (filter test (n ∷ []))
    ∙ ap₂ (λ a b. a ++ b) (once_upto p first n (omega arith))
    (one_new (row_at first) p (nat_lt (before first n) 1) (p row) n row refl refl ∙ ap (λ b. filter p (cond b (row ∷ []) [])) (new_is first n))
    ∙ sym (filter-append p (distinct is_same_row front) (filter (is_new is_same_row front) (row ∷ [])))
    ∙ ap (filter p) (sym (distinct-append same_rows front (row ∷ [])))
    ∙ ap (λ rows. filter p (distinct is_same_row rows)) (sym (take_more first n [] (omega arith)) ∙ ap (λ m. take m first) (let e : n + 1 ≡ suc n = omega arith in e))

once_all : (p : Row → Bool) (first : List Row) → map (row_at first) (filter (λ place. nat_lt (before first place) 1 && p (row_at first place)) (range_with_len 0 (length first))) ≡ filter p (distinct is_same_row first)
once_all p first = once_upto p first (length first) (omega arith) ∙ ap (λ rows. filter p (distinct is_same_row rows)) (take_all (length first) first (omega arith))

-- what is asked of a place of the first input
abbrev wanted : SetOp → List Row → List (List Row) → ℕ → Bool
wanted op first others place =
    let row = row_at first place in
    nat_lt (before first place) (allowed op (occurrences first row) (map (count_by (is_same_row row)) others))

wanted_rows : (op : SetOp) (first : List Row) (others : List (List Row)) → (op ≢ ops.UnionDistinct) → (op ≢ ops.UnionAll) → map (row_at first) (filter (wanted op first others) (range_with_len 0 (length first))) ≡ set_of op first others
wanted_rows ops.MinusPrimary first others h k =
    ap (map (row_at first)) (filter-agree_in (wanted ops.MinusPrimary first others) (λ place. nat_lt (before first place) 1 && not (list_any (λ rows. is_in rows (row_at first place)) others)) (length first) 0 (λ place low high.
    ap (λ n. nat_lt (before first place) (1 - n)) (total_is others (row_at first place)) ∙ minus_once (before first place) others (row_at first place)))
    ∙ once_all (λ row. not (list_any (λ rows. is_in rows row) others)) first
wanted_rows ops.MinusPrimaryAll first others h k =
    ap (map (row_at first)) (filter-agree_in (wanted ops.MinusPrimaryAll first others) (is_among (λ row. occurrences first row - occurrences_in others row) first) (length first) 0 (λ place low high.
    ap (λ n. nat_lt (before first place) (occurrences first (row_at first place) - n)) (total_is others (row_at first place))))
wanted_rows ops.IntersectionPrimary first others h k =
    ap (map (row_at first)) (filter-agree_in (wanted ops.IntersectionPrimary first others) (λ place. nat_lt (before first place) 1 && list_any (λ rows. is_in rows (row_at first place)) others) (length first) 0 (λ place low high.
    ap (λ n. nat_lt (before first place) (min n 1)) (total_is others (row_at first place)) ∙ some_once (before first place) others (row_at first place)))
    ∙ once_all (λ row. list_any (λ rows. is_in rows row) others) first
wanted_rows ops.IntersectionMultiset first others h k =
    ap (map (row_at first)) (filter-agree_in (wanted ops.IntersectionMultiset first others) (λ place. nat_lt (before first place) 1 && list_all (λ rows. is_in rows (row_at first place)) others) (length first) 0 (λ place low high.
    ap (nat_lt (before first place)) (least_is 1 others (row_at first place)) ∙ all_once (before first place) others (row_at first place)))
    ∙ once_all (λ row. list_all (λ rows. is_in rows row) others) first
wanted_rows ops.IntersectionMultisetAll first others h k =
    ap (map (row_at first)) (filter-agree_in (wanted ops.IntersectionMultisetAll first others) (is_among (λ row. fewest (occurrences first row) others row) first) (length first) 0 (λ place low high.
    ap (nat_lt (before first place)) (least_is (occurrences first (row_at first place)) others (row_at first place))))
wanted_rows ops.UnionDistinct first others h k = absurd (h refl)
wanted_rows ops.UnionAll first others h k = absurd (k refl)

-- what is taken of the rows of all inputs is what is asked of the first
taken_is : (op : SetOp) (first : List Row) (others : List (List Row)) (all : List Row) (place : ℕ) → all ≡ flat_map (λ rows. rows) (first ∷ others) → place < length first
    → takes (same_in all) op (length first) (ends_from (length first) others) place ≡ wanted op first others place
taken_is op first others all place e h =
    let rest = flat_map (λ (rows : List Row). rows) others in
    let row = row_at all place in
    let same = is_same_row row in
    let long : length all ≡ length first + length rest = ap length e ∙ length-append first rest in
    let row_is : row ≡ row_at first place = ap (λ rows. get_or rows place []) e ∙ get_or_append_left first rest [] place h in
    let front : times (same_in all place) 0 place ≡ count_by same (take place first) =
    times_are same all 0 place (omega arith) (omega arith)
    ∙ ap (count_by same) (ap₂ take (let z : place - 0 ≡ place = omega arith in z) e ∙ take-append-le place first rest (omega arith)) in
    let whole : times (same_in all place) 0 (length first) ≡ count_by same first =
    times_are same all 0 (length first) (omega arith) (omega arith)
    ∙ ap (count_by same) (ap₂ take (let z : length first - 0 ≡ length first = omega arith in z) e ∙ take_at first rest (length first) refl) in
    let each : times_each (same_in all place) (length first) (ends_from (length first) others) ≡ map (count_by same) others =
    each_is same all (length first) others (omega arith) (ap (drop (length first)) e ∙ drop_at first rest (length first) refl) in
    ap₂ nat_lt front (ap₂ (allowed op) whole each)
    ∙ ap (λ (r : Row). nat_lt (occurrences (take place first) r) (allowed op (occurrences first r) (map (count_by (is_same_row r)) others))) row_is

rows_at_first : (all first rest : List Row) (f g : ℕ → Bool) (n a : ℕ) → all ≡ first ++ rest → a + n ≤ length first → ((k : ℕ) → a ≤ k → k < a + n → f k ≡ g k) → map (row_at all) (filter f (range_with_len a n)) ≡ map (row_at first) (filter g (range_with_len a n))
rows_at_first all first rest f g zero a e h agree = refl
rows_at_first all first rest f g (suc n) a e h agree =
    one_more (f a) (g a) (agree a (omega arith) (omega arith)) a (filter f (range_with_len (a + 1) n)) (filter g (range_with_len (a + 1) n))
    (ap (λ rows. get_or rows a []) e ∙ get_or_append_left first rest [] a (omega arith)) (rows_at_first all first rest f g n (a + 1) e (omega arith) (λ k low high. agree k (omega arith) (omega arith)))
  where
    one_more : (b c : Bool) → b ≡ c → (k : ℕ) (ks js : List ℕ) → row_at all k ≡ row_at first k → map (row_at all) ks ≡ map (row_at first) js → map (row_at all) (cond b (k ∷ ks) ks) ≡ map (row_at first) (cond c (k ∷ js) js)
    one_more true true same k ks js row_same rest_same = ap₂ (λ x l. x ∷ l) row_same rest_same
    one_more true false same k ks js row_same rest_same = absurd (cc)
    one_more false true same k ks js row_same rest_same = absurd (cc)
    one_more false false same k ks js row_same rest_same = rest_same

pub taken_rows_of : (op : SetOp) (first : List Row) (others : List (List Row)) (all : List Row) → (op ≢ ops.UnionDistinct) → (op ≢ ops.UnionAll) → all ≡ flat_map (λ rows. rows) (first ∷ others)
    → map (row_at all) (rows_where (takes (same_in all) op (length first) (ends_from (length first) others)) (length first)) ≡ set_of op first others
taken_rows_of op first others all h k e =
    rows_at_first all first (flat_map (λ rows. rows) others) (takes (same_in all) op (length first) (ends_from (length first) others)) (wanted op first others) (length first) 0 e (omega arith) (λ place low high. taken_is op first others all place e (omega arith))
    ∙ wanted_rows op first others h k

-- and of a union
keep_all : (rows : List Row) → filter (λ row. true) rows ≡ rows
keep_all [] = refl
keep_all (row ∷ rows) = ap (λ rest. row ∷ rest) (keep_all rows)

pub union_rows : (all : List Row) → map (row_at all) (rows_where (takes (same_in all) ops.UnionDistinct (length all) []) (length all)) ≡ distinct is_same_row all
union_rows all =
    ap (map (row_at all)) (filter-agree_in (takes (same_in all) ops.UnionDistinct (length all) []) (λ place. nat_lt (before all place) 1 && true) (length all) 0 (λ place low high.
    taken_is ops.UnionDistinct all [] all place (sym (append-nil all)) (omega arith) ∙ and_true (nat_lt (before all place) 1)))
    ∙ once_all (λ row. true) all ∙ keep_all (distinct is_same_row all)
