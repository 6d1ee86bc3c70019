-- The rows of a set's groups, by what is kept of each.
use Rattle.std.proofs.Common.{◌≡◌, ◌∙◌, ℕ, zero, suc, ◌+◌, ◌-◌, ◌<◌, ◌≤◌, List, [], ◌∷◌, ◌++◌, Bool, true, false, not, ◌&&◌, ◌==◌, Option, Some, None, Result, Ok, Err, IfOk, cond, length, map, drop, drop-cons, get_or, replicate, pos, refl, sym, ap, ap₂, subst, arith, append_assoc, if◌then◌else◌}
use Rattle.std.specs.List.{AllByRecursion, filter, range_with_len, enumerate_from}
use Rattle.std.specs.Option.{is_some}
use Rattle.std.proofs.lemmas.Bool.{eqb-true}
use Rattle.std.proofs.lemmas.Bool.Decides.{nat_tests}
use Rattle.std.proofs.lemmas.List.{get_or-map, map-append, append-nil, length-map, drop_all}
use Rattle.aggregate.proofs.FoldLaws.{few_or_not}
use Rattle.sub_types.specs.declared.fault.FaultKind.TheVariants as faults
use Rattle.std.proofs.lemmas.List.FromFn.{fill_by_all, length-range_with_len}
use Rattle.sub_types.specs.declared.fault.Fault.{Fault}
use Rattle.sub_types.specs.declared.fault.FaultKind.{FaultKind}
use Rattle.sub_types.specs.declared.value.Value.{Value}
use Rattle.sub_types.specs.declared.value.Value.TheVariants.{Null}
use Rattle.sub_types.specs.declared.value.Value.TheVariants as values
use Rattle.sub_types.specs.Stream.{Stream, rows_alone, ended, followed_by, glue, stream_of}
use Rattle.plan_typed.specs.declared.rel.SetMeasure.{SetMeasure}
use Rattle.plan_denote.specs.Rows.{Row, ◌>>=◌, at_relation, fault_at, each_row}
use Rattle.plan_denote.specs.Join.{nulls}
use Rattle.plan_denote.specs.Tally.{Tally, not_null, tally_of, final}
use Rattle.plan_denote.specs.Aggregate.{MAX_INPUT, Entry, Group, members_in, finals, keys_in}
use Rattle.plan_denote.specs.GroupSets.{AnyMeasure, key_over, entry_in, once, group_over, set_row, set_number, rows_of_set, rows_of_sets}
use Rattle.plan_denote.specs.Denote.{any_measure}
use Rattle.group_laws.specs.Columns.{at_row, column, stream_at}
use Rattle.group_laws.proofs.ColumnLaws.{column_rows}
use Rattle.group_tallies.specs.declared.tallies.Keeping.{Keeping}
use Rattle.group_tallies.specs.declared.tallies.Tallies.{Tallies}
use Rattle.group_tallies.specs.Kept.{tallies_in, keeping_in, tally_at, none, kept}
use Rattle.group_tallies.proofs.KeptLaws.{final_kept}
use Rattle.group_columns.specs.Columns.{kept_at, keys_of}
use Rattle.group_states.specs.States.{Kept, kept_in, columns_kept}
use Rattle.group_firsts.specs.declared.firsts.Firsts.{Firsts}
use Rattle.group_firsts.specs.Firsts.{kept_once, AreFirsts, key_in, pair_at}
use Rattle.group_firsts.proofs.PairLaws.{as_many}
use Rattle.denote_typed.proofs.RowsLaws.{fewer_distinct, distinct_all}
use Rattle.group_laws.proofs.SameLaws.{same_rows}
use Rattle.plan_denote.specs.Distinct.{distinct, is_same_row}
use Rattle.aggregate.specs.Finals.{Makes, finals_at}
use Rattle.eval_values.specs.declared.error.EvalError.{EvalError}
use Rattle.eval_values.specs.declared.error.EvalError.TheVariants as errors
use Rattle.set_states.specs.States.{keeping, measure_in}
use Rattle.aggregate.proofs.FinalLaws.{ahead, row_fault}
use Rattle.set_rows.specs.declared.rows.Rows.{Rows}
use Rattle.set_rows.specs.Rows.{kept_by, columns_final, row_at, seen}

abbrev kept_or : Kept → List Kept → Kept
kept_or other [] = other
kept_or other (x ∷ xs) = x

-- ---- rows one after the other

column_map : {A B C : Type 0} (f : B → Result C FaultKind) (g : A → B) (xs : List A) → column f (map g xs) ≡ column (λ x. f (g x)) xs
column_map f g [] = refl
column_map f g (x ∷ xs) = ap (at_row (f (g x))) (column_map f g xs)

column_alike : {C : Type 0} (f g : ℕ → Result C FaultKind) (start count : ℕ) → ((i : ℕ) → i < start + count → f i ≡ g i) → column f (range_with_len start count) ≡ column g (range_with_len start count)
column_alike f g start zero h = refl
column_alike f g start (suc count) h = ap₂ at_row (h start (omega arith)) (column_alike f g (start + 1) count (λ i below. h i (omega (arith, below))))

maps_alike : {A B : Type 0} (number : ℕ) (f g : A → Result (List B) FaultKind) → ((x : A) → f x ≡ g x) → (rows : List A) → map (λ row. stream_of (at_relation number (f row))) rows ≡ map (λ row. stream_of (at_relation number (g row))) rows
maps_alike number f g h [] = refl
maps_alike number f g h (row ∷ rows) = ap₂ (λ one all. stream_of (at_relation number one) ∷ all) (h row) (maps_alike number f g h rows)

each_alike : {A B : Type 0} (number : ℕ) (f g : A → Result (List B) FaultKind) → ((x : A) → f x ≡ g x) → (rows : List A) → each_row number f (rows_alone rows) ≡ each_row number g (rows_alone rows)
each_alike number f g h rows = ap (λ all. followed_by (glue all) (ended None)) (maps_alike number f g h rows)

-- ---- what a column keeps

column_at : (start i : ℕ) (measures : List SetMeasure) (columns : List Tallies) (entries : List Entry) (keys : List Row) (measure : SetMeasure) (tallies : Tallies) → map kept_in columns ≡ columns_kept start (map keeping measures) entries keys
    → i < length measures → measure ≡ get_or measures i measure → tallies ≡ get_or columns i tallies → tallies_in tallies ≡ map (kept_at (keeping measure) entries (start + i)) keys
column_at start i [] columns entries keys measure tallies e h is at = absurd (omega (arith, h))
column_at start i (m ∷ measures) [] entries keys measure tallies e h is at = absurd (cc)
column_at start zero (m ∷ measures) (t ∷ columns) entries keys measure tallies e h is at =
    let first : start ≡ start + 0 = omega arith in
    ap tallies_in at
    ∙ ap (λ l. (kept_or (kept_in t) l).tallies) e
    ∙ ap (λ (x : SetMeasure). map (kept_at (keeping x) entries start) keys) (sym is)
    ∙ ap (λ n. map (kept_at (keeping measure) entries n) keys) first
column_at start (suc i) (m ∷ measures) (t ∷ columns) entries keys measure tallies e h is at =
    let next : suc start + i ≡ start + suc i = omega arith in
    column_at (suc start) i measures columns entries keys measure tallies (ap (drop 1) e) (omega (arith, h)) is at ∙ ap (λ n. map (kept_at (keeping measure) entries n) keys) next

pub column_here : (i : ℕ) (measures : List SetMeasure) (columns : List Tallies) (entries : List Entry) (keys : List Row) (measure : SetMeasure) (tallies : Tallies) → map kept_in columns ≡ columns_kept 0 (map keeping measures) entries keys
    → i < length measures → measure ≡ get_or measures i measure → tallies ≡ get_or columns i tallies → tallies_in tallies ≡ map (kept_at (keeping measure) entries i) keys
column_here i measures columns entries keys measure tallies e h is at =
    let place : 0 + i ≡ i = omega arith in
    column_at 0 i measures columns entries keys measure tallies e h is at ∙ ap (λ n. map (kept_at (keeping measure) entries n) keys) place

kept_all : (measure : SetMeasure) (entries : List Entry) (place : ℕ) (keys : List Row) → measure.distinct ≡ false → map (kept_at (keeping measure) entries place) keys ≡ map (kept_by measure entries place) keys
kept_all measure entries place [] e = refl
kept_all measure entries place (key ∷ keys) e =
    ap₂ (λ t l. t ∷ l) (sym (ap (λ b. kept (keeping measure) (tally_of (not_null (once b (members_in entries key place))))) e)) (kept_all measure entries place keys e)

kept_distinct : (measure : SetMeasure) (entries : List Entry) (place : ℕ) (keys : List Row) → measure.distinct ≡ true → map (kept_once (keeping measure) entries place) keys ≡ map (kept_by measure entries place) keys
kept_distinct measure entries place [] e = refl
kept_distinct measure entries place (key ∷ keys) e =
    ap₂ (λ t l. t ∷ l) (sym (ap (λ b. kept (keeping measure) (tally_of (not_null (once b (members_in entries key place))))) e)) (kept_distinct measure entries place keys e)

-- a column, by whether the measure is over distinct values
pub column_final : (measure : SetMeasure) (entries : List Entry) (place : ℕ) (keys : List Row) (old new : Tallies) (b : Bool) → measure.distinct ≡ b → keeping_in new ≡ keeping measure
    → tallies_in old ≡ map (kept_at (keeping measure) entries place) keys → (measure.distinct ≡ false → tallies_in new ≡ tallies_in old) → (measure.distinct ≡ true → tallies_in new ≡ map (kept_once (keeping measure) entries place) keys)
    → kept_in new ≡ record { keeping = keeping measure; tallies = map (kept_by measure entries place) keys }
column_final measure entries place keys old new true e k was all once =
    ap₂ (λ (kind : Keeping) (l : List Tally). record { keeping = kind; tallies = l }) k (once e ∙ kept_distinct measure entries place keys e)
column_final measure entries place keys old new false e k was all once =
    ap₂ (λ (kind : Keeping) (l : List Tally). record { keeping = kind; tallies = l }) k (all e ∙ was ∙ kept_all measure entries place keys e)

pub columns_next : (place : ℕ) (measures : List SetMeasure) (entries : List Entry) (keys : List Row) (more grown : List Tallies) (new : Tallies) (measure : SetMeasure) (whole : List Kept) → place < length measures → measure ≡ get_or measures place measure
    → grown ≡ more ++ new ∷ [] → kept_in new ≡ record { keeping = keeping measure; tallies = map (kept_by measure entries place) keys }
    → whole ≡ map kept_in more ++ columns_final place (drop place measures) entries keys → whole ≡ map kept_in grown ++ columns_final (place + 1) (drop (place + 1) measures) entries keys
columns_next place measures entries keys more grown new measure whole h is g k e =
    let next : suc place ≡ place + 1 = omega arith in
    let rest = columns_final (place + 1) (drop (place + 1) measures) entries keys in
    e
    ∙ ap (λ l. map kept_in more ++ columns_final place l entries keys) (drop-cons measures place measure h ∙ ap (λ x. x ∷ drop (suc place) measures) (sym is))
    ∙ ap (λ n. map kept_in more ++ record { keeping = keeping measure; tallies = map (kept_by measure entries place) keys } ∷ columns_final n (drop n measures) entries keys) next
    ∙ ap (λ x. map kept_in more ++ x ∷ rest) (sym k)
    ∙ sym (append_assoc (map kept_in more) (kept_in new ∷ []) rest)
    ∙ ap (λ l. l ++ rest) (sym (map-append kept_in more (new ∷ [])) ∙ ap (map kept_in) (sym g))

-- no more distinct values than rows
pub few_firsts : (keys : List Row) (entries : List Entry) (place : ℕ) (firsts : Firsts) → AreFirsts keys entries place firsts → length firsts.groups.items ≤ length entries
few_firsts keys entries place firsts are =
    let own : length firsts.groups.items ≡ length firsts.pairs.rows = as_many keys firsts.groups.items (map key_in firsts.pairs.rows) are.owned ∙ length-map firsts.pairs.rows key_in in
    let rows : length firsts.pairs.rows ≡ length (distinct is_same_row (map (pair_at place) entries)) = ap length are.pairs in
    omega (arith, own, rows, fewer_distinct is_same_row (map (pair_at place) entries), length-map entries (pair_at place))

-- ---- what the measures give

abbrev given : List Entry → Row → ℕ × AnyMeasure → Tally
given entries key one = tally_of (not_null (once one.1.distinct (members_in entries key one.0)))

finals_final : (group place : ℕ) (measures : List SetMeasure) (columns : List Tallies) (entries : List Entry) (keys : List Row) → group < length keys → map kept_in columns ≡ columns_final place measures entries keys
    → finals_at group (map measure_in measures) columns ≡ finals (map (λ (one : AnyMeasure). one.measure) (map any_measure measures)) (map (given entries (get_or keys group [])) (enumerate_from place (map any_measure measures)))
finals_final group place [] columns entries keys there is = refl
finals_final group place (measure ∷ measures) [] entries keys there is = absurd (cc)
finals_final group place (measure ∷ measures) (tallies ∷ columns) entries keys there is =
    let key = get_or keys group [] in
    let own : tallies_in tallies ≡ map (kept_by measure entries place) keys = ap (λ l. (kept_or (kept_in tallies) l).tallies) is in
    let tally = tally_of (not_null (once measure.distinct (members_in entries key place))) in
    let kind = measure.measure.ty.kind in
    let at : tally_at (tallies_in tallies) group ≡ kept (keeping measure) tally =
    ap (λ l. tally_at l group) own ∙ get_or-map (kept_by measure entries place) keys group [] none there in
    let here : final measure.measure.func kind (tally_at (tallies_in tallies) group) ≡ final measure.measure.func kind tally =
    ap (final measure.measure.func kind) at ∙ final_kept measure.measure.func kind tally in
    let step : suc place ≡ place + 1 = omega arith in
    let rest : finals_at group (map measure_in measures) columns ≡ finals (map (λ (one : AnyMeasure). one.measure) (map any_measure measures)) (map (given entries key) (enumerate_from (place + 1) (map any_measure measures))) =
    finals_final group (suc place) measures columns entries keys there (ap (drop 1) is) ∙ ap (λ n. finals (map (λ (one : AnyMeasure). one.measure) (map any_measure measures)) (map (given entries key) (enumerate_from n (map any_measure measures)))) step in
    ap₂ (λ (one : Result Value FaultKind) (more : Result (List Value) FaultKind). one >>= (λ value. more >>= (λ found. Ok (value ∷ found)))) here rest

one_row_more : (r : Result (List Value) FaultKind) (key numbered : Row) → r >>= (λ values. Ok ((key ++ values ++ numbered) ∷ [])) ≡ (r >>= (λ values. Ok (key ++ values ++ numbered))) >>= (λ row. Ok (row ∷ []))
one_row_more (Ok values) key numbered = refl
one_row_more (Err kind) key numbered = refl

-- the rows of a set
pub rows_known : (relation width : ℕ) (measures : List SetMeasure) (set : List ℕ) (entries : List Entry) (keys : List Row) (columns : List Tallies) (numbered : Row)
    → keys ≡ keys_in set (nulls width) (map (entry_in set) entries) → map kept_in columns ≡ columns_final 0 measures (map (entry_in set) entries) keys
    → stream_at relation (column (row_at measures keys columns numbered) (range_with_len 0 (length keys))) ≡ rows_of_set relation width (map any_measure measures) entries set numbered
rows_known relation width measures set entries keys columns numbered is are =
    let own = map (entry_in set) entries in
    let any = map any_measure measures in
    let n = length keys in
    let values = λ (key : Row). finals (map (λ (one : AnyMeasure). one.measure) any) (group_over any own key).tallies >>= (λ found. Ok (key ++ found ++ numbered)) in
    let all : keys ≡ map (λ (i : ℕ). get_or keys i []) (range_with_len 0 n) = fill_by_all (λ i. get_or keys i []) keys n [] refl (λ i below. refl) in
    ap (stream_at relation) (
    column_alike (row_at measures keys columns numbered) (λ i. values (get_or keys i [])) 0 n (λ i below.
    ap (λ (r : Result (List Value) FaultKind). r >>= (λ found. Ok (get_or keys i [] ++ found ++ numbered))) (finals_final i 0 measures columns own keys (omega (arith, below)) are))
    ∙ sym (column_map values (λ (i : ℕ). get_or keys i []) (range_with_len 0 n))
    ∙ ap (column values) (sym all)
    ∙ sym (column_map (λ (group : Group). finals (map (λ (one : AnyMeasure). one.measure) any) group.tallies >>= (λ found. Ok (group.key ++ found ++ numbered))) (group_over any own) keys)
    )
    ∙ sym (column_rows relation (λ (group : Group). finals (map (λ (one : AnyMeasure). one.measure) any) group.tallies >>= (λ found. Ok (group.key ++ found ++ numbered))) (map (group_over any own) keys))
    ∙ sym (each_alike relation (set_row any numbered) (λ (group : Group). (finals (map (λ (one : AnyMeasure). one.measure) any) group.tallies >>= (λ found. Ok (group.key ++ found ++ numbered))) >>= (λ row. Ok (row ∷ [])))
    (λ (group : Group). one_row_more (finals (map (λ (one : AnyMeasure). one.measure) any) group.tallies) group.key numbered) (map (group_over any own) keys))
    ∙ ap (λ l. each_row relation (set_row any numbered) (rows_alone (map (group_over any own) l))) is

pub row_err : (error : EvalError) (r : Result (List Value) FaultKind) (key numbered : Row) → Makes (Err error) r → Makes (Err error) (r >>= (λ found. Ok (key ++ found ++ numbered)))
row_err (errors.Fault kind) r key numbered e = ap (λ one. one >>= (λ found. Ok (key ++ found ++ numbered))) e
row_err errors.NoMemory r key numbered e = tt

-- ---- the loop over groups

pub rows_fault : (relation : ℕ) (f : ℕ → Result Row FaultKind) (group count : ℕ) (out : Rows) (rows : List Row) (kind : FaultKind) → group < count → f group ≡ Err kind → out.rows.items ≡ rows → out.end ≡ Some (fault_at relation kind)
    → column f (range_with_len 0 count) ≡ ahead rows (column f (range_with_len group (count - group))) → seen out ≡ stream_at relation (column f (range_with_len 0 count))
rows_fault relation f group count out rows kind there gives is end so_far =
    let left : count - group ≡ suc (count - (group + 1)) = omega (arith, there) in
    ap₂ (λ (l : List Row) (one : Option Fault). record { rows = l; end = one }) is end
    ∙ sym (ap (stream_at relation) (row_fault f group (count - (group + 1)) rows kind (column f (range_with_len 0 count)) gives (so_far ∙ ap (λ n. ahead rows (column f (range_with_len group n))) left)))

pub rows_done : (relation : ℕ) (f : ℕ → Result Row FaultKind) (group count : ℕ) (out : Rows) (rows : List Row) → count ≤ group → out.rows.items ≡ rows → out.end ≡ None
    → column f (range_with_len 0 count) ≡ ahead rows (column f (range_with_len group (count - group))) → seen out ≡ stream_at relation (column f (range_with_len 0 count))
rows_done relation f group count out rows all is end so_far =
    let none : count - group ≡ 0 = omega (arith, all) in
    ap₂ (λ (l : List Row) (one : Option Fault). record { rows = l; end = one }) is end
    ∙ sym (ap (stream_at relation) (so_far ∙ ap (λ n. ahead rows (column f (range_with_len group n))) none ∙ ap (λ l. record { values = l; stop = None }) (append-nil rows)))

-- ---- a set without groups

nulls_only : (places : List ℕ) → map (λ (place : ℕ). Null) places ≡ replicate (length places) Null
nulls_only [] = refl
nulls_only (place ∷ places) = ap (λ l. Null ∷ l) (nulls_only places)

null_key : (width : ℕ) (key : Row) → length key ≡ width → key_over [] key ≡ nulls width
null_key width key e = nulls_only (range_with_len 0 (length key)) ∙ ap nulls (length-range_with_len 0 (length key) ∙ e)

abbrev AreAlone : ℕ → List Row → Type 0
AreAlone width keys = AllByRecursion (λ (key : Row). key ≡ nulls width) keys

null_keys : (width : ℕ) (entries : List Entry) → AllByRecursion (λ (entry : Entry). length entry.0 ≡ width) entries → AreAlone width (keys_of (map (entry_in []) entries))
null_keys width [] wide = tt
null_keys width (entry ∷ entries) wide = (null_key width entry.0 wide.0, null_keys width entries wide.1)

no_others : (width : ℕ) (key : Row) (keys : List Row) → key ≡ nulls width → AreAlone width keys → filter (λ y. not (is_same_row key y)) keys ≡ []
no_others width key [] e all = refl
no_others width key (other ∷ keys) e all =
    let same : is_same_row key other ≡ true = ap (is_same_row key) (all.0 ∙ sym e) ∙ same_rows.itself key in
    ap (λ b. cond (not b) (other ∷ filter (λ y. not (is_same_row key y)) keys) (filter (λ y. not (is_same_row key y)) keys)) same ∙ no_others width key keys e all.1

one_alone : (width : ℕ) (keys : List Row) → AreAlone width keys → 0 < length (distinct is_same_row keys) → distinct is_same_row keys ≡ nulls width ∷ []
one_alone width [] all h = absurd (omega (arith, h))
one_alone width (key ∷ keys) all h =
    ap (λ l. key ∷ l) (no_others width key (distinct is_same_row keys) all.0 (distinct_all (λ (key : Row). key ≡ nulls width) is_same_row keys all.1)) ∙ ap (λ k. k ∷ []) all.0

not_zero : (n : ℕ) → (n == 0) ≡ false → 0 < n
not_zero n e = grind (arith, nat_tests)

-- the keys of a set
pub keys_are : (width : ℕ) (set : List ℕ) (entries : List Entry) (keys : List Row) (alone : Bool) → keys ≡ distinct is_same_row (keys_of (map (entry_in set) entries)) → AllByRecursion (λ (entry : Entry). length entry.0 ≡ width) entries
    → alone ≡ ((length set == 0) && (length keys == 0)) → alone ≡ false → keys ≡ keys_in set (nulls width) (map (entry_in set) entries)
keys_are width [] entries keys alone is wide a f =
    let some : 0 < length keys = not_zero (length keys) (sym a ∙ f) in
    is ∙ one_alone width (keys_of (map (entry_in []) entries)) (null_keys width entries wide) (subst (λ l. 0 < length l) is some)
keys_are width (place ∷ set) entries keys alone is wide a f = is

is_zero : (n : ℕ) → (n == 0) ≡ true → n ≡ 0
is_zero n e = eqb-true n 0 e

both_true : (a b : Bool) → a && b ≡ true → (a ≡ true) × (b ≡ true)
both_true true b e = (refl, e)
both_true false b e = absurd (cc)

no_set : (set : List ℕ) → length set ≡ 0 → set ≡ []
no_set [] e = refl
no_set (place ∷ set) e = absurd (omega (arith, e))

no_entries : (set : List ℕ) (entries : List Entry) → length (distinct is_same_row (keys_of (map (entry_in set) entries))) ≡ 0 → entries ≡ []
no_entries set [] e = refl
no_entries set (entry ∷ entries) e = absurd (omega (arith, e))

alone_is : (relation width : ℕ) (measures : List SetMeasure) (set : List ℕ) (entries : List Entry) (numbered : Row) (rows : List Row) (out : Stream Row) (alone : Bool) → rows ≡ distinct is_same_row (keys_of (map (entry_in set) entries))
    → alone ≡ ((length set == 0) && (length rows == 0)) → alone ≡ true → out ≡ rows_of_set relation width (map any_measure measures) [] [] numbered → out ≡ rows_of_set relation width (map any_measure measures) entries set numbered
alone_is relation width measures set entries numbered rows out alone is a t e =
    let both = both_true (length set == 0) (length rows == 0) (sym a ∙ t) in
    let none : set ≡ [] = no_set set (is_zero (length set) both.0) in
    let empty : entries ≡ [] = no_entries set entries (sym (ap length is) ∙ is_zero (length rows) both.1) in
    e ∙ ap (λ l. rows_of_set relation width (map any_measure measures) l [] numbered) (sym empty) ∙ ap (λ s. rows_of_set relation width (map any_measure measures) entries s numbered) (sym none)

pub alone_if : {E : Type 0} (relation width : ℕ) (measures : List SetMeasure) (set : List ℕ) (entries : List Entry) (numbered : Row) (rows : List Row) (found : Result Rows E) (alone : Bool) → rows ≡ distinct is_same_row (keys_of (map (entry_in set) entries))
    → alone ≡ ((length set == 0) && (length rows == 0)) → alone ≡ true → IfOk found (λ out. seen out ≡ rows_of_set relation width (map any_measure measures) [] [] numbered) → IfOk found (λ out. seen out ≡ rows_of_set relation width (map any_measure measures) entries set numbered)
alone_if relation width measures set entries numbered rows (Ok out) alone is a t e = alone_is relation width measures set entries numbered rows (seen out) alone is a t e
alone_if relation width measures set entries numbered rows (Err error) alone is a t e = tt

once_none : (b : Bool) → once b [] ≡ []
once_none true = refl
once_none false = refl

pub none_final : (place : ℕ) (measures : List SetMeasure) (a b : Row) → columns_kept place (map keeping measures) [] (a ∷ []) ≡ columns_final place measures [] (b ∷ [])
none_final place [] a b = refl
none_final place (measure ∷ measures) a b =
    ap (λ l. record { keeping = keeping measure; tallies = kept (keeping measure) (tally_of (not_null l)) ∷ [] } ∷ columns_kept (suc place) (map keeping measures) [] (a ∷ [])) (sym (once_none measure.distinct))
    ∙ ap (λ l. record { keeping = keeping measure; tallies = map (kept_by measure [] place) (b ∷ []) } ∷ l) (none_final (suc place) measures a b)

-- ---- set after set

-- the number of a set
pub numbered : (sets : List (List ℕ)) (place : ℕ) → 1 < length sets → values.Int (pos place) ∷ [] ≡ set_number sets place
numbered [] place h = absurd (omega arith)
numbered (set ∷ []) place h = absurd (omega arith)
numbered (set ∷ other ∷ sets) place h = refl

pub unnumbered : (sets : List (List ℕ)) (place : ℕ) → length sets ≤ 1 → [] ≡ set_number sets place
unnumbered [] place h = refl
unnumbered (set ∷ []) place h = refl
unnumbered (set ∷ other ∷ sets) place h = absurd (omega arith)

abbrev pub rows_at : ℕ → ℕ → List (List ℕ) → List AnyMeasure → List Entry → ℕ × List ℕ → Stream Row
rows_at relation width places any entries one = rows_of_set relation width any entries one.1 (set_number places one.0)

abbrev pub so_far : List Row → Stream Row
so_far rows = record { rows = rows; end = None }

pub sets_first : (relation width : ℕ) (places : List (List ℕ)) (any : List AnyMeasure) (entries : List Entry) (first : List Row) → first ≡ [] → glue (map (rows_at relation width places any entries) (enumerate_from 0 places)) ≡ followed_by (so_far first) (glue (map (rows_at relation width places any entries) (enumerate_from 0 places)))
sets_first relation width places any entries first e = ap (λ l. followed_by (so_far l) (glue (map (rows_at relation width places any entries) (enumerate_from 0 places)))) (sym e)

next_set : (f : ℕ × List ℕ → Stream Row) (places : List (List ℕ)) (place : ℕ) → place < length places → glue (map f (enumerate_from place (drop place places))) ≡ followed_by (f (place, get_or places place [])) (glue (map f (enumerate_from (place + 1) (drop (place + 1) places))))
next_set f places place h =
    let next : suc place ≡ place + 1 = omega arith in
    ap (λ l. glue (map f (enumerate_from place l))) (drop-cons places place [] h)
    ∙ ap (λ n. followed_by (f (place, get_or places place [])) (glue (map f (enumerate_from (place + 1) (drop n places))))) next

pub sets_next : (f : ℕ × List ℕ → Stream Row) (places : List (List ℕ)) (place : ℕ) (rows more grown : List Row) (whole : Stream Row) → place < length places → f (place, get_or places place []) ≡ so_far more → grown ≡ rows ++ more
    → whole ≡ followed_by (so_far rows) (glue (map f (enumerate_from place (drop place places)))) → whole ≡ followed_by (so_far grown) (glue (map f (enumerate_from (place + 1) (drop (place + 1) places))))
sets_next f places place rows more grown whole h is g e =
    let rest = glue (map f (enumerate_from (place + 1) (drop (place + 1) places))) in
    e ∙ ap (followed_by (so_far rows)) (next_set f places place h ∙ ap (λ s. followed_by s rest) is)
    ∙ ap (λ l. record { rows = l; end = rest.end }) (sym (append_assoc rows more rest.rows) ∙ ap (λ l. l ++ rest.rows) (sym g))

pub sets_fault : (f : ℕ × List ℕ → Stream Row) (places : List (List ℕ)) (place : ℕ) (rows more grown : List Row) (fault : Fault) (whole : Stream Row) → place < length places → f (place, get_or places place []) ≡ record { rows = more; end = Some fault } → grown ≡ rows ++ more
    → whole ≡ followed_by (so_far rows) (glue (map f (enumerate_from place (drop place places)))) → whole ≡ record { rows = grown; end = Some fault }
sets_fault f places place rows more grown fault whole h is g e =
    let rest = glue (map f (enumerate_from (place + 1) (drop (place + 1) places))) in
    e ∙ ap (followed_by (so_far rows)) (next_set f places place h ∙ ap (λ s. followed_by s rest) is)
    ∙ ap (λ l. record { rows = l; end = Some fault }) (sym g)

pub sets_done : (f : ℕ × List ℕ → Stream Row) (places : List (List ℕ)) (place : ℕ) (rows : List Row) (whole : Stream Row) → length places ≤ place → whole ≡ followed_by (so_far rows) (glue (map f (enumerate_from place (drop place places)))) → whole ≡ so_far rows
sets_done f places place rows whole h e =
    e ∙ ap (λ l. followed_by (so_far rows) (glue (map f (enumerate_from place l)))) (drop_all place places h) ∙ ap so_far (append-nil rows)

pub sets_few : (relation width : ℕ) (places : List (List ℕ)) (any : List AnyMeasure) (entries : List Entry) → length entries ≤ MAX_INPUT → rows_of_sets relation width places any entries ≡ glue (map (rows_at relation width places any entries) (enumerate_from 0 places))
unfolding rows_of_sets
sets_few relation width places any entries few =
    ap (λ b. if b then glue (map (rows_at relation width places any entries) (enumerate_from 0 places)) else ended (Some (fault_at relation faults.TooManyRows))) (few_or_not (length entries) few)

pub none_end : (end : Option Fault) → is_some end ≡ false → end ≡ None
none_end None e = refl
none_end (Some fault) e = absurd (cc)

pub sets_ended : (f : ℕ × List ℕ → Stream Row) (places : List (List ℕ)) (place : ℕ) (rows more grown : List Row) (end : Option Fault) (whole : Stream Row) → is_some end ≡ true → place < length places → f (place, get_or places place []) ≡ record { rows = more; end = end } → grown ≡ rows ++ more
    → whole ≡ followed_by (so_far rows) (glue (map f (enumerate_from place (drop place places)))) → whole ≡ record { rows = grown; end = end }
sets_ended f places place rows more grown None whole t h is g e = absurd (cc)
sets_ended f places place rows more grown (Some fault) whole t h is g e = sets_fault f places place rows more grown fault whole h is g e
