-- The tallies of groups by their keys, and rows or groups more.
use Rattle.std.proofs.Common.{◌≡◌, ◌∙◌, ℕ, zero, suc, ◌<◌, ◌≤◌, List, [], ◌∷◌, ◌++◌, Bool, true, false, ◌||◌, cond, Option, Some, None, map, length, refl, sym, ap, drop, arith}
use Rattle.std.specs.Prelude.{slice_index_or}
use Rattle.std.specs.List.{list_any, slice_get, filter, filter_map, cons_option}
use Rattle.std.proofs.lemmas.List.{map-append, length-append, length-map}
use Rattle.std.proofs.lemmas.List.Folds.{list_any-append}
use Rattle.sub_types.specs.declared.value.Value.{Value}
use Rattle.plan_denote.specs.Computed.{Row}
use Rattle.plan_denote.specs.Distinct.{is_same_row}
use Rattle.plan_denote.specs.Aggregate.{Entry, members_in}
use Rattle.plan_denote.specs.Tally.{Tally, not_null, tally_of}
use Rattle.group_laws.specs.Merged.{tallies_merged}
use Rattle.group_laws.proofs.SameLaws.{same_rows}
use Rattle.group_laws.proofs.GroupLaws.{members-append, members_alike, no_members}
use Rattle.group_laws.proofs.TallyLaws.{tally-append, merged_assoc}
use Rattle.group_keys.specs.Keys.{with_item}
use Rattle.group_tallies.specs.declared.tallies.Keeping.{Keeping}
use Rattle.group_tallies.specs.declared.tallies.Keeping.TheVariants as keepings
use Rattle.group_tallies.specs.Kept.{none, kept, with_tally, kept_of}
use Rattle.group_tallies.proofs.KeptLaws.{kept_merged, none_more}
use Rattle.group_numbers.specs.Keys.{IsOnce, AreAt, with_keys}
use Rattle.group_columns.specs.Columns.{padded, with_members, with_tallies, kept_at, keys_of, members_at, Covers}

map_alike : {A B : Type 0} (f g : A → B) → ((x : A) → f x ≡ g x) → (xs : List A) → map f xs ≡ map g xs
map_alike f g h [] = refl
map_alike f g h (x ∷ xs) = ap (λ y. y ∷ map f xs) (h x) ∙ ap (λ l. g x ∷ l) (map_alike f g h xs)

none_head : (a b : Bool) → a || b ≡ false → (a ≡ false) × (b ≡ false)
none_head true b e = absurd (cc)
none_head false b e = (refl, e)

abbrev row_or : Row → Option Row → Row
row_or other None = other
row_or other (Some row) = row

abbrev option_or : Option Row → List (Option Row) → Option Row
option_or other [] = other
option_or other (x ∷ xs) = x

nothing_kept : (keeping : Keeping) → kept keeping (tally_of []) ≡ none
nothing_kept keepings.Count = refl
nothing_kept keepings.Total = refl
nothing_kept keepings.Least = refl
nothing_kept keepings.Greatest = refl

-- a tally more at the group of a key
abbrev at_key : (Row → Tally) → Row → Tally → Row → Tally
at_key f key later k = cond (is_same_row k key) (tallies_merged (f k) later) (f k)

no_other : (f : Row → Tally) (key : Row) (later : Tally) (keys : List Row) → list_any (is_same_row key) keys ≡ false → map f keys ≡ map (at_key f key later) keys
no_other f key later [] e = refl
no_other f key later (k ∷ keys) e =
    let both = none_head (is_same_row key k) (list_any (is_same_row key) keys) e in
    ap (λ x. x ∷ map f keys) (sym (ap (λ b. cond b (tallies_merged (f k) later) (f k)) (same_rows.symm k key ∙ both.0)))
    ∙ ap (λ l. at_key f key later k ∷ l) (no_other f key later keys both.1)

unlike : (keys : List Row) (n : ℕ) (key k : Row) → list_any (is_same_row k) keys ≡ false → slice_get keys n ≡ Some key → is_same_row k key ≡ false
unlike [] n key k e f = absurd (cc)
unlike (x ∷ keys) zero key k e f =
    let both = none_head (is_same_row k x) (list_any (is_same_row k) keys) e in
    ap (is_same_row k) (sym (ap (row_or []) f)) ∙ both.0
unlike (x ∷ keys) (suc n) key k e f =
    let both = none_head (is_same_row k x) (list_any (is_same_row k) keys) e in
    unlike keys n key k both.1 f

at_place : (f : Row → Tally) (keys : List Row) (n : ℕ) (key : Row) (later : Tally) → IsOnce keys → slice_get keys n ≡ Some key → with_tally (map f keys) n later ≡ map (at_key f key later) keys
at_place f [] n key later o e = absurd (cc)
at_place f (k ∷ keys) zero key later o e =
    let is : k ≡ key = ap (row_or []) e in
    ap (λ x. x ∷ map f keys) (sym (ap (λ b. cond b (tallies_merged (f k) later) (f k)) (ap (is_same_row k) (sym is) ∙ same_rows.itself k)))
    ∙ ap (λ l. at_key f key later k ∷ l) (no_other f key later keys (ap (λ x. list_any (is_same_row x) keys) (sym is) ∙ o.0))
at_place f (k ∷ keys) (suc n) key later o e =
    ap (λ x. x ∷ with_tally (map f keys) n later) (sym (ap (λ b. cond b (tallies_merged (f k) later) (f k)) (unlike keys n key k o.0 e)))
    ∙ ap (λ l. at_key f key later k ∷ l) (at_place f keys n key later o.1 e)

-- what a measure takes of the rows of a key
abbrev before : Option Value → List Value → List Value
before None values = values
before (Some value) values = value ∷ values

first_member : (entry : Entry) (later : List Entry) (key : Row) (place : ℕ) (m : Option Value) (b : Bool) → slice_index_or entry.1 place None ≡ m → is_same_row key entry.0 ≡ b
    → members_in (entry ∷ later) key place ≡ cond b (before m (members_in later key place)) (members_in later key place)
first_member entry later key place m false e f =
    ap (λ t. filter_map (λ one. slice_index_or one.1 place None) (cond t (entry ∷ filter (λ one. is_same_row key one.0) later) (filter (λ one. is_same_row key one.0) later))) f
first_member entry later key place None true e f =
    ap (λ t. filter_map (λ one. slice_index_or one.1 place None) (cond t (entry ∷ filter (λ one. is_same_row key one.0) later) (filter (λ one. is_same_row key one.0) later))) f
    ∙ ap (λ o. cons_option o (members_in later key place)) e
first_member entry later key place (Some value) true e f =
    ap (λ t. filter_map (λ one. slice_index_or one.1 place None) (cond t (entry ∷ filter (λ one. is_same_row key one.0) later) (filter (λ one. is_same_row key one.0) later))) f
    ∙ ap (λ o. cons_option o (members_in later key place)) e

same_both : {A : Type 0} (b : Bool) (x : A) → cond b x x ≡ x
same_both true x = refl
same_both false x = refl

first_kept : (keeping : Keeping) (value : Value) (values : List Value) → tallies_merged (kept_of keeping value) (kept keeping (tally_of (not_null values))) ≡ kept keeping (tally_of (not_null (value ∷ values)))
first_kept keeping value values =
    sym (kept_merged keeping (tally_of (not_null (value ∷ []))) (tally_of (not_null values))) ∙ sym (ap (kept keeping) (tally-append (value ∷ []) values))

one_kept : (keeping : Keeping) (f : Row → Tally) (value : Value) (values : List Value) (k : Row) (b : Bool)
    → tallies_merged (cond b (tallies_merged (f k) (kept_of keeping value)) (f k)) (kept keeping (tally_of (not_null values))) ≡ tallies_merged (f k) (kept keeping (tally_of (not_null (cond b (value ∷ values) values))))
one_kept keeping f value values k true =
    merged_assoc (f k) (kept_of keeping value) (kept keeping (tally_of (not_null values))) ∙ ap (tallies_merged (f k)) (first_kept keeping value values)
one_kept keeping f value values k false = refl

-- rows more
none_kept : (keeping : Keeping) (f : Row → Tally) (keys : List Row) → map f keys ≡ map (λ k. tallies_merged (f k) (kept keeping (tally_of []))) keys
none_kept keeping f keys = map_alike f (λ k. tallies_merged (f k) (kept keeping (tally_of []))) (λ k. sym (ap (tallies_merged (f k)) (nothing_kept keeping) ∙ none_more (f k))) keys

kept_after : (keeping : Keeping) (f : Row → Tally) (entry : Entry) (later : List Entry) (place : ℕ) (value : Value) (k : Row) → slice_index_or entry.1 place None ≡ Some value
    → tallies_merged (at_key f entry.0 (kept_of keeping value) k) (kept_at keeping later place k) ≡ tallies_merged (f k) (kept_at keeping (entry ∷ later) place k)
kept_after keeping f entry later place value k e =
    one_kept keeping f value (members_in later k place) k (is_same_row k entry.0)
    ∙ ap (λ l. tallies_merged (f k) (kept keeping (tally_of (not_null l)))) (sym (first_member entry later k place (Some value) (is_same_row k entry.0) e refl))

kept_still : (keeping : Keeping) (f : Row → Tally) (entry : Entry) (later : List Entry) (place : ℕ) (k : Row) → slice_index_or entry.1 place None ≡ None
    → tallies_merged (f k) (kept_at keeping later place k) ≡ tallies_merged (f k) (kept_at keeping (entry ∷ later) place k)
kept_still keeping f entry later place k e =
    ap (λ l. tallies_merged (f k) (kept keeping (tally_of (not_null l)))) (sym (first_member entry later k place None (is_same_row k entry.0) e refl ∙ same_both (is_same_row k entry.0) (members_in later k place)))

-- one row, and those behind it
row_kept : (keeping : Keeping) (f : Row → Tally) (keys : List Row) (n : ℕ) (numbers : List ℕ) (entry : Entry) (later : List Entry) (place : ℕ) (m : Option Value) → slice_index_or entry.1 place None ≡ m
    → IsOnce keys → slice_get keys n ≡ Some entry.0
    → ((g : Row → Tally) → with_members keeping (map g keys) numbers (members_at place later) ≡ map (λ k. tallies_merged (g k) (kept_at keeping later place k)) keys)
    → with_members keeping (map f keys) (n ∷ numbers) (m ∷ members_at place later) ≡ map (λ k. tallies_merged (f k) (kept_at keeping (entry ∷ later) place k)) keys
row_kept keeping f keys n numbers entry later place None e o at rest =
    rest f ∙ map_alike (λ k. tallies_merged (f k) (kept_at keeping later place k)) (λ k. tallies_merged (f k) (kept_at keeping (entry ∷ later) place k)) (λ k. kept_still keeping f entry later place k e) keys
row_kept keeping f keys n numbers entry later place (Some value) e o at rest =
    let g : Row → Tally = at_key f entry.0 (kept_of keeping value) in
    ap (λ l. with_members keeping l numbers (members_at place later)) (at_place f keys n entry.0 (kept_of keeping value) o at)
    ∙ rest g
    ∙ map_alike (λ k. tallies_merged (g k) (kept_at keeping later place k)) (λ k. tallies_merged (f k) (kept_at keeping (entry ∷ later) place k)) (λ k. kept_after keeping f entry later place value k e) keys

rows_kept : (keeping : Keeping) (f : Row → Tally) (keys : List Row) (numbers : List ℕ) (later : List Entry) (place : ℕ) → IsOnce keys → AreAt keys numbers (keys_of later)
    → with_members keeping (map f keys) numbers (members_at place later) ≡ map (λ k. tallies_merged (f k) (kept_at keeping later place k)) keys
rows_kept keeping f keys [] [] place o e = none_kept keeping f keys
rows_kept keeping f keys [] (entry ∷ later) place o e = absurd (cc)
rows_kept keeping f keys (n ∷ numbers) [] place o e = absurd (cc)
rows_kept keeping f keys (n ∷ numbers) (entry ∷ later) place o e =
    row_kept keeping f keys n numbers entry later place (slice_index_or entry.1 place None) refl o (ap (option_or None) e) (λ g. rows_kept keeping g keys numbers later place o (ap (drop 1) e))

-- groups more
any_alike : (k x : Row) (others : List Row) → is_same_row k x ≡ true → list_any (is_same_row k) others ≡ list_any (is_same_row x) others
any_alike k x [] e = refl
any_alike k x (y ∷ others) e = ap (λ b. b || list_any (is_same_row k) others) (same_rows.congr k x y e) ∙ ap (λ b. is_same_row x y || b) (any_alike k x others e)

one_group : (f g : Row → Tally) (x : Row) (others : List Row) (k : Row) (b : Bool) → is_same_row k x ≡ b → list_any (is_same_row x) others ≡ false → ((k x : Row) → is_same_row k x ≡ true → g k ≡ g x)
    → cond (list_any (is_same_row k) others) (tallies_merged (at_key f x (g x) k) (g k)) (at_key f x (g x) k) ≡ cond (is_same_row k x || list_any (is_same_row k) others) (tallies_merged (f k) (g k)) (f k)
one_group f g x others k true e absent alike =
    ap (λ a. cond a (tallies_merged (at_key f x (g x) k) (g k)) (at_key f x (g x) k)) (any_alike k x others e ∙ absent)
    ∙ ap (λ t. cond t (tallies_merged (f k) (g x)) (f k)) e
    ∙ ap (tallies_merged (f k)) (sym (alike k x e))
    ∙ sym (ap (λ t. cond (t || list_any (is_same_row k) others) (tallies_merged (f k) (g k)) (f k)) e)
one_group f g x others k false e absent alike =
    ap (λ t. cond (list_any (is_same_row k) others) (tallies_merged (cond t (tallies_merged (f k) (g x)) (f k)) (g k)) (cond t (tallies_merged (f k) (g x)) (f k))) e
    ∙ sym (ap (λ t. cond (t || list_any (is_same_row k) others) (tallies_merged (f k) (g k)) (f k)) e)

groups_kept : (f g : Row → Tally) (keys : List Row) (numbers : List ℕ) (others : List Row) → IsOnce keys → IsOnce others → ((k x : Row) → is_same_row k x ≡ true → g k ≡ g x) → AreAt keys numbers others
    → with_tallies (map f keys) numbers (map g others) ≡ map (λ k. cond (list_any (is_same_row k) others) (tallies_merged (f k) (g k)) (f k)) keys
groups_kept f g keys [] [] o oo alike e = refl
groups_kept f g keys [] (x ∷ others) o oo alike e = absurd (cc)
groups_kept f g keys (n ∷ numbers) [] o oo alike e = absurd (cc)
groups_kept f g keys (n ∷ numbers) (x ∷ others) o oo alike e =
    ap (λ l. with_tallies l numbers (map g others)) (at_place f keys n x (g x) o (ap (option_or None) e))
    ∙ groups_kept (at_key f x (g x)) g keys numbers others o oo.1 alike (ap (drop 1) e)
    ∙ map_alike (λ k. cond (list_any (is_same_row k) others) (tallies_merged (at_key f x (g x) k) (g k)) (at_key f x (g x) k))
    (λ k. cond (is_same_row k x || list_any (is_same_row k) others) (tallies_merged (f k) (g k)) (f k)) (λ k. one_group f g x others k (is_same_row k x) refl oo.0 alike) keys

-- groups that are new have none
longer_by : (keys : List Row) (key : Row) (b : Bool) → length keys ≤ length (cond b keys (keys ++ key ∷ []))
longer_by keys key true = omega arith
longer_by keys key false = omega (arith, length-append keys (key ∷ []))

longer : (keys more : List Row) → length keys ≤ length (with_keys keys more)
longer keys [] = omega arith
longer keys (key ∷ more) =
    let step = longer_by keys key (list_any (is_same_row key) keys) in
    let rest = longer (with_item is_same_row keys key) more in
    omega (arith, step, rest)

pub pad_more : (n : ℕ) (tallies : List Tally) → length tallies < n → padded n tallies ≡ padded n (tallies ++ none ∷ [])
pad_more zero tallies h = absurd (omega (arith, h))
pad_more (suc n) [] h = refl
pad_more (suc n) (tally ∷ tallies) h = ap (λ l. tally ∷ l) (pad_more n tallies (omega (arith, h)))

pub pad_done : (tallies : List Tally) → padded (length tallies) tallies ≡ tallies
pad_done [] = refl
pad_done (tally ∷ tallies) = ap (λ l. tally ∷ l) (pad_done tallies)

abbrev IsGrown : (Row → Tally) → List Row → List Row → Type 0
IsGrown f more keys = padded (length (with_keys keys more)) (map f keys) ≡ map f (with_keys keys more)

abbrev HasNone : (Row → Tally) → List Row → Type 0
HasNone f keys = (k : Row) → list_any (is_same_row k) keys ≡ false → f k ≡ none

grown_by : (f : Row → Tally) (keys more : List Row) (key : Row) (b : Bool) → list_any (is_same_row key) keys ≡ b → HasNone f keys → ((others : List Row) → HasNone f others → IsGrown f more others) → padded (length (with_keys (cond b keys (keys ++ key ∷ [])) more)) (map f keys) ≡ map f (with_keys (cond b keys (keys ++ key ∷ [])) more)
grown_by f keys more key true e h rest = rest keys h
grown_by f keys more key false e h rest =
    let long = longer (keys ++ key ∷ []) more in
    let room : length (map f keys) < length (with_keys (keys ++ key ∷ []) more) = omega (arith, length-map keys f, long, length-append keys (key ∷ [])) in
    pad_more (length (with_keys (keys ++ key ∷ []) more)) (map f keys) room
    ∙ ap (λ t. padded (length (with_keys (keys ++ key ∷ []) more)) (map f keys ++ t ∷ [])) (sym (h key e))
    ∙ ap (padded (length (with_keys (keys ++ key ∷ []) more))) (sym (map-append f keys (key ∷ [])))
    ∙ rest (keys ++ key ∷ []) (λ x d. h x (none_head (list_any (is_same_row x) keys) (list_any (is_same_row x) (key ∷ [])) (sym (list_any-append (is_same_row x) keys (key ∷ [])) ∙ d)).0)

grown : (f : Row → Tally) (keys more : List Row) → HasNone f keys → IsGrown f more keys
grown f keys [] h = ap (λ n. padded n (map f keys)) (sym (length-map keys f)) ∙ pad_done (map f keys)
grown f keys (key ∷ more) h = grown_by f keys more key (list_any (is_same_row key) keys) refl h (λ others g. grown f others more g)

-- a measure's tallies
uncovered : (keeping : Keeping) (keys : List Row) (entries : List Entry) (place : ℕ) → Covers keys entries → (k : Row) → list_any (is_same_row k) keys ≡ false → kept_at keeping entries place k ≡ none
uncovered keeping keys entries place covers k e =
    ap (λ l. kept keeping (tally_of (not_null l))) (no_members entries k place (covers k e)) ∙ nothing_kept keeping

both_kept : (keeping : Keeping) (entries later : List Entry) (place : ℕ) (k : Row) → tallies_merged (kept_at keeping entries place k) (kept_at keeping later place k) ≡ kept_at keeping (entries ++ later) place k
both_kept keeping entries later place k =
    sym (kept_merged keeping (tally_of (not_null (members_in entries k place))) (tally_of (not_null (members_in later k place))))
    ∙ sym (ap (kept keeping) (tally-append (members_in entries k place) (members_in later k place)))
    ∙ sym (ap (λ l. kept keeping (tally_of (not_null l))) (members-append entries later k place))

pub rows_more : (keeping : Keeping) (entries later : List Entry) (place : ℕ) (keys : List Row) (numbers : List ℕ) → Covers keys entries → IsOnce (with_keys keys (keys_of later)) → AreAt (with_keys keys (keys_of later)) numbers (keys_of later)
    → with_members keeping (padded (length (with_keys keys (keys_of later))) (map (kept_at keeping entries place) keys)) numbers (members_at place later) ≡ map (kept_at keeping (entries ++ later) place) (with_keys keys (keys_of later))
rows_more keeping entries later place keys numbers covers o e =
    ap (λ l. with_members keeping l numbers (members_at place later)) (grown (kept_at keeping entries place) keys (keys_of later) (uncovered keeping keys entries place covers))
    ∙ rows_kept keeping (kept_at keeping entries place) (with_keys keys (keys_of later)) numbers later place o e
    ∙ map_alike (λ k. tallies_merged (kept_at keeping entries place k) (kept_at keeping later place k)) (kept_at keeping (entries ++ later) place) (both_kept keeping entries later place) (with_keys keys (keys_of later))

group_more : (keeping : Keeping) (entries later : List Entry) (place : ℕ) (others : List Row) (k : Row) (b : Bool) → Covers others later → list_any (is_same_row k) others ≡ b
    → cond b (tallies_merged (kept_at keeping entries place k) (kept_at keeping later place k)) (kept_at keeping entries place k) ≡ kept_at keeping (entries ++ later) place k
group_more keeping entries later place others k true covers e = both_kept keeping entries later place k
group_more keeping entries later place others k false covers e =
    sym (ap (tallies_merged (kept_at keeping entries place k)) (uncovered keeping others later place covers k e) ∙ none_more (kept_at keeping entries place k))
    ∙ both_kept keeping entries later place k

pub groups_more : (keeping : Keeping) (entries later : List Entry) (place : ℕ) (keys others : List Row) (numbers : List ℕ) → Covers keys entries → Covers others later → IsOnce (with_keys keys others) → IsOnce others → AreAt (with_keys keys others) numbers others
    → with_tallies (padded (length (with_keys keys others)) (map (kept_at keeping entries place) keys)) numbers (map (kept_at keeping later place) others) ≡ map (kept_at keeping (entries ++ later) place) (with_keys keys others)
groups_more keeping entries later place keys others numbers covers covered o oo e =
    ap (λ l. with_tallies l numbers (map (kept_at keeping later place) others)) (grown (kept_at keeping entries place) keys others (uncovered keeping keys entries place covers))
    ∙ groups_kept (kept_at keeping entries place) (kept_at keeping later place) (with_keys keys others) numbers others o oo (λ k x s. ap (λ l. kept keeping (tally_of (not_null l))) (members_alike later k x place s)) e
    ∙ map_alike (λ k. cond (list_any (is_same_row k) others) (tallies_merged (kept_at keeping entries place k) (kept_at keeping later place k)) (kept_at keeping entries place k)) (kept_at keeping (entries ++ later) place)
    (λ k. group_more keeping entries later place others k (list_any (is_same_row k) others) covered refl) (with_keys keys others)
