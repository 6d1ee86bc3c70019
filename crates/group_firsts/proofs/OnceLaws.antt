-- What is kept of distinct values, by the pairs of values and keys.
use Rattle.std.proofs.Common.{◌≡◌, ◌∙◌, ℕ, zero, suc, ◌+◌, ◌<◌, ◌≤◌, List, [], ◌∷◌, ◌++◌, Bool, true, false, not, ◌&&◌, ◌||◌, cond, Option, Some, None, map, length, get_or, drop, drop-cons, refl, sym, ap, subst, arith}
use Rattle.std.specs.List.{AllByRecursion, filter, filter_map, cons_option}
use Rattle.std.specs.Prelude.{slice_index_or}
use Rattle.std.proofs.lemmas.List.{length-map}
use Rattle.sub_types.specs.declared.value.Value.{Value}
use Rattle.sub_types.specs.declared.value.Value.TheVariants as values
use Rattle.plan_denote.specs.Computed.{Row, is_null}
use Rattle.plan_denote.specs.Order.{is_same}
use Rattle.plan_denote.specs.Distinct.{is_same_row, distinct}
use Rattle.plan_denote.specs.Aggregate.{Entry, members_in}
use Rattle.plan_denote.specs.Tally.{Tally, not_null, tally_of}
use Rattle.group_laws.proofs.SameLaws.{same_rows}
use Rattle.group_laws.proofs.DistinctLaws.{Respects, distinct-filter}
use Rattle.group_tallies.specs.declared.tallies.Keeping.{Keeping}
use Rattle.group_tallies.specs.declared.tallies.Keeping.TheVariants as keepings
use Rattle.group_tallies.specs.Kept.{none, kept, with_tally, kept_of}
use Rattle.group_numbers.specs.Keys.{AreAt, IsOnce, with_keys}
use Rattle.group_columns.specs.Columns.{padded, with_members, kept_at, keys_of, members_at, count_in}
use Rattle.group_columns.proofs.ColumnLaws.{rows_more, pad_done}
use Rattle.std.proofs.lemmas.List.Sums.{sum_by-cons}
use Rattle.std.specs.List.{list_any, slice_get}
use Rattle.group_firsts.specs.Firsts.{or_null, pair_at, first_in, key_in, kept_once}

abbrev option_or : Option Row → List (Option Row) → Option Row
option_or other [] = other
option_or other (x ∷ xs) = x

abbrev row_or : Row → Option Row → Row
row_or other None = other
row_or other (Some row) = row

-- ---- each value once

both_true : (a b : Bool) → a && b ≡ true → (a ≡ true) × (b ≡ true)
both_true true b e = (refl, e)
both_true false b e = absurd (cc)

-- a pair's key is the same
abbrev has_key : Row → Row → Bool
has_key key pair = is_same_row key (key_in pair)

key_respects : (key : Row) → Respects is_same_row (has_key key)
key_respects key [] [] e = refl
key_respects key [] (b ∷ y) e = absurd (cc)
key_respects key (a ∷ x) [] e = absurd (cc)
key_respects key (a ∷ x) (b ∷ y) e =
    let same = both_true (is_same a b) (is_same_row x y) e in
    same_rows.symm key x ∙ same_rows.congr x y key same.1 ∙ same_rows.symm y key

-- pairs of one key: a value and something behind it
abbrev IsOfKey : Row → Row → Type 0
IsOfKey key [] = ⊥
IsOfKey key (value ∷ own) = is_same_row key own ≡ true

same_keys : (key x y : Row) → is_same_row key x ≡ true → is_same_row key y ≡ true → is_same_row x y ≡ true
same_keys key x y e f = sym (same_rows.congr key x y e) ∙ f

and_true : (b : Bool) → b && true ≡ b
and_true true = refl
and_true false = refl

same_first : (key x y : Row) → IsOfKey key x → IsOfKey key y → is_same_row x y ≡ is_same (first_in x) (first_in y)
same_first key [] y h g = absurd h
same_first key (a ∷ x) [] h g = absurd g
same_first key (a ∷ x) (b ∷ y) h g = ap (λ t. is_same a b && t) (same_keys key x y h g) ∙ and_true (is_same a b)

kept_of_key : (key : Row) (test : Row → Bool) (pairs : List Row) (b : Bool) (x : Row) → IsOfKey key x → AllByRecursion (IsOfKey key) (filter test pairs) → AllByRecursion (IsOfKey key) (cond b (x ∷ filter test pairs) (filter test pairs))
kept_of_key key test pairs true x h all = (h, all)
kept_of_key key test pairs false x h all = all

still_of_key : (key : Row) (test : Row → Bool) (pairs : List Row) → AllByRecursion (IsOfKey key) pairs → AllByRecursion (IsOfKey key) (filter test pairs)
still_of_key key test [] all = tt
still_of_key key test (x ∷ pairs) all = kept_of_key key test pairs (test x) x all.0 (still_of_key key test pairs all.1)

once_of_key : (key : Row) (pairs : List Row) → AllByRecursion (IsOfKey key) pairs → AllByRecursion (IsOfKey key) (distinct is_same_row pairs)
once_of_key key [] all = tt
once_of_key key (x ∷ pairs) all = (all.0, still_of_key key (λ y. not (is_same_row x y)) (distinct is_same_row pairs) (once_of_key key pairs all.1))

first_picked : (b : Bool) (y : Row) (rest : List Row) → map first_in (cond b (y ∷ rest) rest) ≡ cond b (first_in y ∷ map first_in rest) (map first_in rest)
first_picked true y rest = refl
first_picked false y rest = refl

map_filtered : (key x : Row) (pairs : List Row) → IsOfKey key x → AllByRecursion (IsOfKey key) pairs → map first_in (filter (λ y. not (is_same_row x y)) pairs) ≡ filter (λ v. not (is_same (first_in x) v)) (map first_in pairs)
map_filtered key x [] h all = refl
map_filtered key x (y ∷ pairs) h all =
    let rest = filter (λ y. not (is_same_row x y)) pairs in
    first_picked (not (is_same_row x y)) y rest
    ∙ ap (λ b. cond (not b) (first_in y ∷ map first_in rest) (map first_in rest)) (same_first key x y h all.0)
    ∙ ap (λ l. cond (not (is_same (first_in x) (first_in y))) (first_in y ∷ l) l) (map_filtered key x pairs h all.1)

-- the values of distinct pairs of one key are the distinct values
once_firsts : (key : Row) (pairs : List Row) → AllByRecursion (IsOfKey key) pairs → map first_in (distinct is_same_row pairs) ≡ distinct is_same (map first_in pairs)
once_firsts key [] all = refl
once_firsts key (x ∷ pairs) all =
    ap (λ l. first_in x ∷ l) (map_filtered key x (distinct is_same_row pairs) all.0 (once_of_key key pairs all.1) ∙ ap (filter (λ v. not (is_same (first_in x) v))) (once_firsts key pairs all.1))

-- ---- the pairs of a key's rows

abbrev own : Row → List Entry → List Entry
own key entries = filter (λ (entry : Entry). is_same_row key entry.0) entries

pair_picked : (place : ℕ) (b : Bool) (entry : Entry) (rest : List Entry) → cond b (pair_at place entry ∷ map (pair_at place) rest) (map (pair_at place) rest) ≡ map (pair_at place) (cond b (entry ∷ rest) rest)
pair_picked place true entry rest = refl
pair_picked place false entry rest = refl

pairs_of_key : (key : Row) (place : ℕ) (entries : List Entry) → filter (has_key key) (map (pair_at place) entries) ≡ map (pair_at place) (own key entries)
pairs_of_key key place [] = refl
pairs_of_key key place (entry ∷ entries) =
    ap (λ l. cond (is_same_row key entry.0) (pair_at place entry ∷ l) l) (pairs_of_key key place entries)
    ∙ pair_picked place (is_same_row key entry.0) entry (own key entries)

all_by : (key : Row) (place : ℕ) (entry : Entry) (rest : List Entry) (b : Bool) → is_same_row key entry.0 ≡ b → AllByRecursion (IsOfKey key) (map (pair_at place) rest) → AllByRecursion (IsOfKey key) (map (pair_at place) (cond b (entry ∷ rest) rest))
all_by key place entry rest true e all = (e, all)
all_by key place entry rest false e all = all

all_of_key : (key : Row) (place : ℕ) (entries : List Entry) → AllByRecursion (IsOfKey key) (map (pair_at place) (own key entries))
all_of_key key place [] = tt
all_of_key key place (entry ∷ entries) = all_by key place entry (own key entries) (is_same_row key entry.0) refl (all_of_key key place entries)

-- ---- nulls count for nothing

null_respects : Respects is_same (λ value. not (is_null value))
null_respects values.Null values.Null e = refl
null_respects values.Null (values.Bool y) e = absurd (cc)
null_respects values.Null (values.Int y) e = absurd (cc)
null_respects values.Null (values.Dec y) e = absurd (cc)
null_respects values.Null (values.Bytes y) e = absurd (cc)
null_respects (values.Bool x) values.Null e = absurd (cc)
null_respects (values.Bool x) (values.Bool y) e = refl
null_respects (values.Bool x) (values.Int y) e = refl
null_respects (values.Bool x) (values.Dec y) e = refl
null_respects (values.Bool x) (values.Bytes y) e = refl
null_respects (values.Int x) values.Null e = absurd (cc)
null_respects (values.Int x) (values.Bool y) e = refl
null_respects (values.Int x) (values.Int y) e = refl
null_respects (values.Int x) (values.Dec y) e = refl
null_respects (values.Int x) (values.Bytes y) e = refl
null_respects (values.Dec x) values.Null e = absurd (cc)
null_respects (values.Dec x) (values.Bool y) e = refl
null_respects (values.Dec x) (values.Int y) e = refl
null_respects (values.Dec x) (values.Dec y) e = refl
null_respects (values.Dec x) (values.Bytes y) e = refl
null_respects (values.Bytes x) values.Null e = absurd (cc)
null_respects (values.Bytes x) (values.Bool y) e = refl
null_respects (values.Bytes x) (values.Int y) e = refl
null_respects (values.Bytes x) (values.Dec y) e = refl
null_respects (values.Bytes x) (values.Bytes y) e = refl

null_by : (m taken : Option Value) (firsts others : List Value) → taken ≡ m → not_null firsts ≡ not_null others → not_null (or_null taken ∷ firsts) ≡ not_null (cons_option taken others)
null_by None taken firsts others e rest = ap (λ t. not_null (or_null t ∷ firsts)) e ∙ rest ∙ sym (ap (λ t. not_null (cons_option t others)) e)
null_by (Some value) taken firsts others e rest =
    ap (λ t. not_null (or_null t ∷ firsts)) e ∙ ap (λ l. cond (not (is_null value)) (value ∷ l) l) rest ∙ sym (ap (λ t. not_null (cons_option t others)) e)

null_or_none : (place : ℕ) (entries : List Entry) → not_null (map first_in (map (pair_at place) entries)) ≡ not_null (filter_map (λ (entry : Entry). slice_index_or entry.1 place None) entries)
null_or_none place [] = refl
null_or_none place (entry ∷ entries) =
    null_by (slice_index_or entry.1 place None) (slice_index_or entry.1 place None) (map first_in (map (pair_at place) entries)) (filter_map (λ (entry : Entry). slice_index_or entry.1 place None) entries) refl (null_or_none place entries)

-- the distinct values of a key's rows, by the pairs
pub once_is : (key : Row) (place : ℕ) (entries : List Entry) → not_null (map first_in (filter (has_key key) (distinct is_same_row (map (pair_at place) entries)))) ≡ not_null (distinct is_same (members_in entries key place))
once_is key place entries =
    ap (λ l. not_null (map first_in l)) (sym (distinct-filter is_same_row (has_key key) (key_respects key) (map (pair_at place) entries)) ∙ ap (distinct is_same_row) (pairs_of_key key place entries))
    ∙ ap not_null (once_firsts key (map (pair_at place) (own key entries)) (all_of_key key place entries))
    ∙ sym (distinct-filter is_same (λ value. not (is_null value)) null_respects (map first_in (map (pair_at place) (own key entries))))
    ∙ ap (distinct is_same) (null_or_none place (own key entries))
    ∙ distinct-filter is_same (λ value. not (is_null value)) null_respects (members_in entries key place)

-- ---- what is kept of them

abbrev entry_of_pair : Row → Entry
entry_of_pair pair = (key_in pair, Some (first_in pair) ∷ [])

member_of_pair : (pair : Row) (rest : List Entry) (others : List Row) (b : Bool) → filter_map (λ (entry : Entry). slice_index_or entry.1 0 None) rest ≡ map first_in others
    → filter_map (λ (entry : Entry). slice_index_or entry.1 0 None) (cond b (entry_of_pair pair ∷ rest) rest) ≡ map first_in (cond b (pair ∷ others) others)
member_of_pair pair rest others true e = ap (λ l. first_in pair ∷ l) e
member_of_pair pair rest others false e = e

members_of_pairs : (key : Row) (pairs : List Row) → members_in (map entry_of_pair pairs) key 0 ≡ map first_in (filter (has_key key) pairs)
members_of_pairs key [] = refl
members_of_pairs key (pair ∷ pairs) = member_of_pair pair (filter (λ (entry : Entry). is_same_row key entry.0) (map entry_of_pair pairs)) (filter (has_key key) pairs) (is_same_row key (key_in pair)) (members_of_pairs key pairs)

keys_of_pairs : (pairs : List Row) → keys_of (map entry_of_pair pairs) ≡ map key_in pairs
keys_of_pairs [] = refl
keys_of_pairs (pair ∷ pairs) = ap (λ l. key_in pair ∷ l) (keys_of_pairs pairs)

values_of_pairs : (pairs : List Row) → members_at 0 (map entry_of_pair pairs) ≡ map (λ pair. Some (first_in pair)) pairs
values_of_pairs [] = refl
values_of_pairs (pair ∷ pairs) = ap (λ l. Some (first_in pair) ∷ l) (values_of_pairs pairs)

nothing_kept : (keeping : Keeping) → kept keeping (tally_of []) ≡ none
nothing_kept keepings.Count = refl
nothing_kept keepings.Total = refl
nothing_kept keepings.Least = refl
nothing_kept keepings.Greatest = refl

pub none_many : (groups : ℕ) → length (padded groups []) ≡ groups
none_many zero = refl
none_many (suc groups) = ap suc (none_many groups)

pub none_counted : (groups : ℕ) → count_in (padded groups []) ≤ 0
none_counted zero = let e : count_in [] ≡ 0 = refl in omega (arith, e)
none_counted (suc groups) =
    let rest = none_counted groups in
    let e : count_in (none ∷ padded groups []) ≡ 0 + count_in (padded groups []) = sum_by-cons (λ t. t.count) none (padded groups []) in
    omega (arith, e, rest)

none_of : (keeping : Keeping) (keys : List Row) (groups : ℕ) → length keys ≡ groups → padded groups [] ≡ map (kept_at keeping [] 0) keys
none_of keeping [] groups e = ap (λ n. padded n []) (sym e)
none_of keeping (key ∷ keys) groups e = ap (λ n. padded n []) (sym e) ∙ ap (λ t. t ∷ padded (length keys) []) (sym (nothing_kept keeping)) ∙ ap (λ l. kept_at keeping [] 0 key ∷ l) (none_of keeping keys (length keys) refl)

-- keys that are there make no group
found_any : (keys : List Row) (n : ℕ) (key : Row) → slice_get keys n ≡ Some key → list_any (is_same_row key) keys ≡ true
found_any [] n key e = absurd (cc)
found_any (x ∷ keys) zero key e = ap (λ k. is_same_row k x || list_any (is_same_row k) keys) (sym (ap (row_or []) e)) ∙ ap (λ b. b || list_any (is_same_row x) keys) (same_rows.itself x)
found_any (x ∷ keys) (suc n) key e = also (is_same_row key x) (list_any (is_same_row key) keys) (found_any keys n key e)
  where
    also : (a b : Bool) → b ≡ true → a || b ≡ true
    also true b e = refl
    also false b e = e

still_keys : (keys more : List Row) (numbers : List ℕ) → AreAt keys numbers more → with_keys keys more ≡ keys
still_keys keys [] numbers e = refl
still_keys keys (key ∷ more) [] e = absurd (cc)
still_keys keys (key ∷ more) (n ∷ numbers) e =
    ap (λ b. with_keys (cond b keys (keys ++ key ∷ [])) more) (found_any keys n key (ap (option_or None) e)) ∙ still_keys keys more numbers (ap (drop 1) e)

map_alike : {A B : Type 0} (f g : A → B) → ((x : A) → f x ≡ g x) → (xs : List A) → map f xs ≡ map g xs
map_alike f g h [] = refl
map_alike f g h (x ∷ xs) = ap (λ y. y ∷ map f xs) (h x) ∙ ap (λ l. g x ∷ l) (map_alike f g h xs)

pub all_kept : (keeping : Keeping) (keys : List Row) (groups place : ℕ) (entries : List Entry) (pairs : List Row) (numbers : List ℕ) → length keys ≡ groups → IsOnce keys → AreAt keys numbers (map key_in pairs)
    → pairs ≡ distinct is_same_row (map (pair_at place) entries) → with_members keeping (padded groups []) numbers (map (λ pair. Some (first_in pair)) pairs) ≡ map (kept_once keeping entries place) keys
all_kept keeping keys groups place entries pairs numbers many once at are =
    let later = map entry_of_pair pairs in
    let here : AreAt keys numbers (keys_of later) = subst (AreAt keys numbers) (sym (keys_of_pairs pairs)) at in
    let same : with_keys keys (keys_of later) ≡ keys = still_keys keys (keys_of later) numbers here in
    let long : length (map (kept_at keeping [] 0) keys) ≡ length (with_keys keys (keys_of later)) = length-map keys (kept_at keeping [] 0) ∙ ap length (sym same) in
    ap (λ l. with_members keeping l numbers (map (λ pair. Some (first_in pair)) pairs)) (none_of keeping keys groups many ∙ sym (pad_done (map (kept_at keeping [] 0) keys)) ∙ ap (λ n. padded n (map (kept_at keeping [] 0) keys)) long)
    ∙ ap (with_members keeping (padded (length (with_keys keys (keys_of later))) (map (kept_at keeping [] 0) keys)) numbers) (sym (values_of_pairs pairs))
    ∙ rows_more keeping [] later 0 keys numbers (λ key e. refl) (subst IsOnce (sym same) once) (subst (λ k. AreAt k numbers (keys_of later)) (sym same) here)
    ∙ ap (map (kept_at keeping later 0)) same
    ∙ map_alike (kept_at keeping later 0) (kept_once keeping entries place) (λ key.
    ap (λ l. kept keeping (tally_of (not_null l))) (members_of_pairs key pairs)
    ∙ ap (λ l. kept keeping (tally_of (not_null (map first_in (filter (has_key key) l))))) are
    ∙ ap (λ l. kept keeping (tally_of l)) (once_is key place entries)) keys

-- ---- the loop over pairs

pub pair_added : (keeping : Keeping) (tallies more : List Tally) (numbers : List ℕ) (pairs : List Row) (from : ℕ) (value : Value) → from < length numbers → from < length pairs → value ≡ first_in (get_or pairs from [])
    → more ≡ with_tally tallies (get_or numbers from 0) (kept_of keeping value)
    → with_members keeping more (drop (from + 1) numbers) (map (λ pair. Some (first_in pair)) (drop (from + 1) pairs)) ≡ with_members keeping tallies (drop from numbers) (map (λ pair. Some (first_in pair)) (drop from pairs))
pair_added keeping tallies more numbers pairs from value h g is m =
    let next : suc from ≡ from + 1 = omega arith in
    let n = get_or numbers from 0 in
    ap (λ t. with_members keeping t (drop (from + 1) numbers) (map (λ pair. Some (first_in pair)) (drop (from + 1) pairs))) (m ∙ ap (λ v. with_tally tallies n (kept_of keeping v)) is)
    ∙ sym (
    ap (λ l. with_members keeping tallies l (map (λ pair. Some (first_in pair)) (drop from pairs))) (drop-cons numbers from 0 h ∙ ap (λ i. n ∷ drop i numbers) next)
    ∙ ap (λ l. with_members keeping tallies (n ∷ drop (from + 1) numbers) (map (λ pair. Some (first_in pair)) l)) (drop-cons pairs from [] g ∙ ap (λ i. get_or pairs from [] ∷ drop i pairs) next))
