-- The rows of groups, by what is kept of each.
use Rattle.std.proofs.Common.{◌≡◌, ◌∙◌, ℕ, zero, suc, ◌+◌, ◌-◌, ◌<◌, ◌≤◌, List, [], ◌∷◌, ◌++◌, Bool, true, false, Option, Some, None, Result, Ok, Err, length, map, drop, drop-cons, get_or, min, refl, sym, ap, ap₂, arith, if◌then◌else◌}
use Rattle.std.specs.Prelude.{nat_le}
use Rattle.std.specs.List.{range_with_len, enumerate_from}
use Rattle.std.proofs.lemmas.Bool.Decides.{nat_tests}
use Rattle.std.proofs.lemmas.List.{get_or-map, append_assoc, append-nil, drop_all}
use Rattle.std.proofs.lemmas.List.FromFn.{fill_by_all}
use Rattle.sub_types.specs.declared.fault.Fault.{Fault}
use Rattle.sub_types.specs.declared.fault.FaultKind.{FaultKind}
use Rattle.sub_types.specs.declared.fault.FaultKind.TheVariants as faults
use Rattle.sub_types.specs.declared.value.Value.{Value}
use Rattle.sub_types.specs.Stream.{Stream, rows_alone, ended, followed_by, glue, stream_of}
use Rattle.plan_typed.specs.declared.rel.TypedMeasure.{TypedMeasure}
use Rattle.plan_denote.specs.Rows.{Row, ◌>>=◌, at_relation, fault_at, each_row, unless_fault}
use Rattle.plan_denote.specs.Tally.{Tally, not_null, tally_of, final}
use Rattle.plan_denote.specs.Aggregate.{MAX_INPUT, Measure, Entry, Group, members_in, group_of, finals, group_row, groups_if, keys_in, summary, rows_of_summary, aggregated}
use Rattle.plan_denote.specs.Denote.{measure_of}
use Rattle.plan_denote.specs.Eval.{eval}
use Rattle.eval_values.specs.Gives.{Gives}
use Rattle.eval_values.specs.declared.error.EvalError.{EvalError}
use Rattle.eval_values.specs.declared.error.EvalError.TheVariants as errors
use Rattle.batch.specs.declared.batch.Batch.{Batch}
use Rattle.batch.specs.BatchRows.{rows_of}
use Rattle.rel_specs.specs.declared.groups.AggSpec.{AggSpec}
use Rattle.group_laws.specs.Columns.{Column, at_row, column, stream_at}
use Rattle.group_laws.proofs.ColumnLaws.{column_rows}
use Rattle.group_tallies.specs.declared.tallies.Tallies.{Tallies}
use Rattle.group_tallies.specs.Kept.{tallies_in, tally_at, none, kept}
use Rattle.group_tallies.proofs.KeptLaws.{final_kept}
use Rattle.group_columns.specs.Columns.{kept_at}
use Rattle.group_states.specs.declared.groups.Groups.{Groups}
use Rattle.group_states.specs.States.{Kept, kept_in, columns_kept}
use Rattle.aggregate.specs.declared.state.State.{State}
use Rattle.aggregate.specs.declared.state.State.TheVariants as states
use Rattle.aggregate.specs.States.{IsKnown, Holds, keeping, entries_by}
use Rattle.aggregate.specs.declared.finals.Rows.{Rows}
use Rattle.aggregate.specs.Finals.{Makes, finals_at, row_at, rows_by, seen, AreRows, AreFinal}
use Rattle.plan_pipes.specs.RowMeaning.{aggregated_by}
use Rattle.aggregate.proofs.FoldLaws.{few_or_not}

-- ---- the measures of one group, one after the other

abbrev pub behind : List Value → Result (List Value) FaultKind → Result (List Value) FaultKind
behind done rest = rest >>= (λ found. Ok (done ++ found))

pub none_behind : (rest : Result (List Value) FaultKind) → rest ≡ behind [] rest
none_behind (Ok found) = refl
none_behind (Err kind) = refl

one_behind : (done more : List Value) (value : Value) (rest : Result (List Value) FaultKind) → more ≡ done ++ value ∷ [] → behind done (rest >>= (λ found. Ok (value ∷ found))) ≡ behind more rest
one_behind done more value (Ok found) e = ap Ok (sym (append_assoc done (value ∷ []) found) ∙ ap (λ l. l ++ found) (sym e))
one_behind done more value (Err kind) e = refl

next_final : (group : ℕ) (measures more_measures : List TypedMeasure) (columns more_columns : List Tallies) (measure : TypedMeasure) (tallies : Tallies) → measures ≡ measure ∷ more_measures → columns ≡ tallies ∷ more_columns
    → finals_at group measures columns ≡ final measure.func measure.ty.kind (tally_at (tallies_in tallies) group) >>= (λ value. finals_at group more_measures more_columns >>= (λ rest. Ok (value ∷ rest)))
next_final group measures more_measures columns more_columns measure tallies e f = ap₂ (finals_at group) e f

pub final_more : (group place next : ℕ) (measures : List TypedMeasure) (columns : List Tallies) (measure : TypedMeasure) (tallies : Tallies) (done more : List Value) (value : Value) (whole : Result (List Value) FaultKind)
    → place < length measures → place < length columns → measure ≡ get_or measures place measure → tallies ≡ get_or columns place tallies → final measure.func measure.ty.kind (tally_at (tallies_in tallies) group) ≡ Ok value → more ≡ done ++ value ∷ [] → next ≡ place + 1
    → whole ≡ behind done (finals_at group (drop place measures) (drop place columns)) → whole ≡ behind more (finals_at group (drop next measures) (drop next columns))
final_more group place next measures columns measure tallies done more value whole there within at of gives pushed is so_far =
    let step : suc place ≡ next = omega (arith, is) in
    let rest = finals_at group (drop (suc place) measures) (drop (suc place) columns) in
    so_far
    ∙ ap (behind done) (next_final group (drop place measures) (drop (suc place) measures) (drop place columns) (drop (suc place) columns) measure tallies (drop-cons measures place measure there ∙ ap (λ m. m ∷ drop (suc place) measures) (sym at)) (drop-cons columns place tallies within ∙ ap (λ t. t ∷ drop (suc place) columns) (sym of)))
    ∙ ap (λ r. behind done (r >>= (λ value. rest >>= (λ found. Ok (value ∷ found))))) gives
    ∙ one_behind done more value rest pushed
    ∙ ap (λ n. behind more (finals_at group (drop n measures) (drop n columns))) step

pub final_fault : (group place : ℕ) (measures : List TypedMeasure) (columns : List Tallies) (measure : TypedMeasure) (tallies : Tallies) (done : List Value) (kind : FaultKind) (whole : Result (List Value) FaultKind)
    → place < length measures → place < length columns → measure ≡ get_or measures place measure → tallies ≡ get_or columns place tallies → final measure.func measure.ty.kind (tally_at (tallies_in tallies) group) ≡ Err kind
    → whole ≡ behind done (finals_at group (drop place measures) (drop place columns)) → whole ≡ Err kind
final_fault group place measures columns measure tallies done kind whole there within at of gives so_far =
    let rest = finals_at group (drop (suc place) measures) (drop (suc place) columns) in
    so_far
    ∙ ap (behind done) (next_final group (drop place measures) (drop (suc place) measures) (drop place columns) (drop (suc place) columns) measure tallies (drop-cons measures place measure there ∙ ap (λ m. m ∷ drop (suc place) measures) (sym at)) (drop-cons columns place tallies within ∙ ap (λ t. t ∷ drop (suc place) columns) (sym of)))
    ∙ ap (λ r. behind done (r >>= (λ value. rest >>= (λ found. Ok (value ∷ found))))) gives

pub final_done : (group place : ℕ) (measures : List TypedMeasure) (columns : List Tallies) (done : List Value) (whole : Result (List Value) FaultKind) → length measures ≤ place → whole ≡ behind done (finals_at group (drop place measures) (drop place columns)) → whole ≡ Ok done
final_done group place measures columns done whole all so_far =
    so_far ∙ ap (λ l. behind done (finals_at group l (drop place columns))) (drop_all place measures all) ∙ ap Ok (append-nil done)

-- ---- rows one after the other

abbrev pub ahead : List Row → Column Row → Column Row
ahead rows one = record { values = rows ++ one.values; stop = one.stop }

pub row_next : (f : ℕ → Result Row FaultKind) (start count : ℕ) (rows more : List Row) (row : Row) (whole : Column Row) → f start ≡ Ok row → more ≡ rows ++ row ∷ [] → whole ≡ ahead rows (column f (range_with_len start (suc count))) → whole ≡ ahead more (column f (range_with_len (start + 1) count))
row_next f start count rows more row whole gives pushed so_far =
    let rest = column f (range_with_len (start + 1) count) in
    so_far ∙ ap (λ r. ahead rows (at_row r rest)) gives ∙ ap (λ l. record { values = l; stop = rest.stop }) (sym (append_assoc rows (row ∷ []) rest.values) ∙ ap (λ l. l ++ rest.values) (sym pushed))

pub row_fault : (f : ℕ → Result Row FaultKind) (start count : ℕ) (rows : List Row) (kind : FaultKind) (whole : Column Row) → f start ≡ Err kind → whole ≡ ahead rows (column f (range_with_len start (suc count))) → whole ≡ record { values = rows; stop = Some kind }
row_fault f start count rows kind whole gives so_far =
    let rest = column f (range_with_len (start + 1) count) in
    so_far ∙ ap (λ r. ahead rows (at_row r rest)) gives ∙ ap (λ l. record { values = l; stop = Some kind }) (append-nil rows)

-- ---- what the measures give, by all that is known

abbrev kept_or : Kept → List Kept → Kept
kept_or other [] = other
kept_or other (x ∷ xs) = x

abbrev members_of_key : List Entry → Row → ℕ × Measure → Tally
members_of_key entries key one = tally_of (not_null (members_in entries key one.0))

finals_known : (group place : ℕ) (measures : List TypedMeasure) (columns : List Tallies) (entries : List Entry) (keys : List Row) → group < length keys → map kept_in columns ≡ columns_kept place (map keeping measures) entries keys
    → finals_at group measures columns ≡ finals (map measure_of measures) (map (members_of_key entries (get_or keys group [])) (enumerate_from place (map measure_of measures)))
finals_known group place [] columns entries keys there is = refl
finals_known group place (measure ∷ measures) [] entries keys there is = absurd (cc)
finals_known group place (measure ∷ measures) (tallies ∷ columns) entries keys there is =
    let key = get_or keys group [] in
    let own : tallies_in tallies ≡ map (kept_at (keeping measure) entries place) keys = ap (λ l. (kept_or (kept_in tallies) l).tallies) is in
    let tally = tally_of (not_null (members_in entries key place)) in
    let at : tally_at (tallies_in tallies) group ≡ kept (keeping measure) tally =
    ap (λ l. tally_at l group) own ∙ get_or-map (kept_at (keeping measure) entries place) keys group [] none there in
    let here : final measure.func measure.ty.kind (tally_at (tallies_in tallies) group) ≡ final measure.func measure.ty.kind tally =
    ap (final measure.func measure.ty.kind) at ∙ final_kept measure.func measure.ty.kind tally in
    let step : suc place ≡ place + 1 = omega arith in
    let rest : finals_at group measures columns ≡ finals (map measure_of measures) (map (members_of_key entries key) (enumerate_from (place + 1) (map measure_of measures))) =
    finals_known group (suc place) measures columns entries keys there (ap (drop 1) is) ∙ ap (λ n. finals (map measure_of measures) (map (members_of_key entries key) (enumerate_from n (map measure_of measures)))) step in
    ap₂ (λ (one : Result Value FaultKind) (more : Result (List Value) FaultKind). one >>= (λ value. more >>= (λ found. Ok (value ∷ found)))) here rest

one_row_of : (r : Result (List Value) FaultKind) (key : Row) → r >>= (λ values. Ok ((key ++ values) ∷ [])) ≡ (r >>= (λ values. Ok (key ++ values))) >>= (λ row. Ok (row ∷ []))
one_row_of (Ok values) key = refl
one_row_of (Err kind) key = refl

maps_alike : {A B : Type 0} (number : ℕ) (f g : A → Result (List B) FaultKind) → ((x : A) → f x ≡ g x) → (rows : List A) → map (λ row. stream_of (at_relation number (f row))) rows ≡ map (λ row. stream_of (at_relation number (g row))) rows
maps_alike number f g h [] = refl
maps_alike number f g h (row ∷ rows) = ap₂ (λ one all. stream_of (at_relation number one) ∷ all) (h row) (maps_alike number f g h rows)

each_alike : {A B : Type 0} (number : ℕ) (f g : A → Result (List B) FaultKind) → ((x : A) → f x ≡ g x) → (rows : List A) → each_row number f (rows_alone rows) ≡ each_row number g (rows_alone rows)
each_alike number f g h rows = ap (λ all. followed_by (glue all) (ended None)) (maps_alike number f g h rows)

column_map : {A B C : Type 0} (f : B → Result C FaultKind) (g : A → B) (xs : List A) → column f (map g xs) ≡ column (λ x. f (g x)) xs
column_map f g [] = refl
column_map f g (x ∷ xs) = ap (at_row (f (g x))) (column_map f g xs)

column_alike : {C : Type 0} (f g : ℕ → Result C FaultKind) (start count : ℕ) → ((i : ℕ) → i < start + count → f i ≡ g i) → column f (range_with_len start count) ≡ column g (range_with_len start count)
column_alike f g start zero h = refl
column_alike f g start (suc count) h = ap₂ at_row (h start (omega arith)) (column_alike f g (start + 1) count (λ i below. h i (omega (arith, below))))

abbrev group_values : List Measure → Group → Result Row FaultKind
group_values measures group = finals measures group.tallies >>= (λ values. Ok (group.key ++ values))

row_known : (spec : AggSpec) (entries : List Entry) (groups : Groups) (group : ℕ) → IsKnown spec entries groups → group < length groups.keys.rows
    → row_at spec groups group ≡ group_values (map measure_of spec.measures.items) (group_of (map measure_of spec.measures.items) entries (get_or groups.keys.rows group []))
row_known spec entries groups group known there =
    ap (λ r. r >>= (λ found. Ok (get_or groups.keys.rows group [] ++ found))) (finals_known group 0 spec.measures.items groups.columns.items entries groups.keys.rows there known.knows.columns)

abbrev rows_if : AggSpec → Bool → List Group → Stream Row
rows_if spec b groups = if b then each_row spec.relation (group_row (map measure_of spec.measures.items)) (rows_alone groups) else ended (Some (fault_at spec.relation faults.TooManyRows))

pub rows_known : (spec : AggSpec) (entries : List Entry) (groups : Groups) → IsKnown spec entries groups
    → stream_at spec.relation (column (row_at spec groups) (range_with_len 0 (length groups.keys.rows))) ≡ rows_of_summary spec.relation (map measure_of spec.measures.items) (summary (map eval spec.groups.items) (map measure_of spec.measures.items) entries)
unfolding rows_of_summary summary
rows_known spec entries groups known =
    let measures = map measure_of spec.measures.items in
    let keys = groups.keys.rows in
    let n = length keys in
    let given = λ (i : ℕ). group_values measures (group_of measures entries (get_or keys i [])) in
    let own : List Group = map (group_of measures entries) keys in
    let few : nat_le (length entries) MAX_INPUT ≡ true = few_or_not (length entries) known.few in
    let least : min (length entries) (suc MAX_INPUT) ≡ length entries = omega (arith, known.few) in
    let all : keys ≡ map (λ (i : ℕ). get_or keys i []) (range_with_len 0 n) = fill_by_all (λ i. get_or keys i []) keys n [] refl (λ i below. refl) in
    ap (stream_at spec.relation) (
    column_alike (row_at spec groups) given 0 n (λ i below. row_known spec entries groups i known (omega (arith, below)))
    ∙ sym (column_map (λ key. group_values measures (group_of measures entries key)) (λ (i : ℕ). get_or keys i []) (range_with_len 0 n))
    ∙ ap (column (λ key. group_values measures (group_of measures entries key))) (sym all)
    ∙ sym (column_map (group_values measures) (group_of measures entries) keys)
    )
    ∙ sym (column_rows spec.relation (group_values measures) own)
    ∙ sym (each_alike spec.relation (group_row measures) (λ group. group_values measures group >>= (λ row. Ok (row ∷ []))) (λ group. one_row_of (finals measures group.tallies) group.key) own)
    ∙ ap (λ l. each_row spec.relation (group_row measures) (rows_alone (map (group_of measures entries) l))) known.keys
    ∙ sym (
    ap (λ b. rows_if spec b (groups_if b (map (group_of measures entries) (keys_in (map eval spec.groups.items) [] entries)))) few
    )
    ∙ ap (λ k. rows_if spec (nat_le k MAX_INPUT) (groups_if (nat_le (length entries) MAX_INPUT) (map (group_of measures entries) (keys_in (map eval spec.groups.items) [] entries)))) (sym least)

too_many : (n : ℕ) → nat_le n MAX_INPUT ≡ false → nat_le (min n (suc MAX_INPUT)) MAX_INPUT ≡ false
too_many n h = grind (arith, nat_tests)

pub rows_many : (spec : AggSpec) (entries : List Entry) → nat_le (length entries) MAX_INPUT ≡ false
    → rows_of_summary spec.relation (map measure_of spec.measures.items) (summary (map eval spec.groups.items) (map measure_of spec.measures.items) entries) ≡ ended (Some (fault_at spec.relation faults.TooManyRows))
unfolding rows_of_summary summary
rows_many spec entries many =
    let over : nat_le (min (length entries) (suc MAX_INPUT)) MAX_INPUT ≡ false = too_many (length entries) many in
    ap (λ b. if b then each_row spec.relation (group_row (map measure_of spec.measures.items)) (rows_alone (groups_if (nat_le (length entries) MAX_INPUT) (map (group_of (map measure_of spec.measures.items) entries) (keys_in (map eval spec.groups.items) [] entries)))) else ended (Some (fault_at spec.relation faults.TooManyRows))) over

-- ---- the rows of a state

pub by_none : (spec : AggSpec) (s : Stream Entry) → s.end ≡ None → rows_by spec s ≡ rows_of_summary spec.relation (map measure_of spec.measures.items) (summary (map eval spec.groups.items) (map measure_of spec.measures.items) s.rows)
by_none spec s e = ap (λ end. unless_fault end (rows_of_summary spec.relation (map measure_of spec.measures.items) (summary (map eval spec.groups.items) (map measure_of spec.measures.items) s.rows))) e

pub by_fault : (spec : AggSpec) (s : Stream Entry) (fault : Fault) → s.end ≡ Some fault → rows_by spec s ≡ ended (Some fault)
by_fault spec s fault e = ap (λ end. unless_fault end (rows_of_summary spec.relation (map measure_of spec.measures.items) (summary (map eval spec.groups.items) (map measure_of spec.measures.items) s.rows))) e

pub final_ended : (spec : AggSpec) (fault : Fault) (out : Rows) → out.rows.items ≡ [] → out.end ≡ Some fault → AreFinal spec (states.Ended fault) out
final_ended spec fault out none end s h = ap₂ (λ (rows : List Row) (one : Option Fault). record { rows = rows; end = one }) none end ∙ sym (by_fault spec s fault h)

pub final_many : (spec : AggSpec) (out : Rows) → out.rows.items ≡ [] → out.end ≡ Some (fault_at spec.relation faults.TooManyRows) → AreFinal spec states.TooMany out
final_many spec out none end s h =
    ap₂ (λ (rows : List Row) (one : Option Fault). record { rows = rows; end = one }) none end
    ∙ sym (rows_many spec s.rows h.1) ∙ sym (by_none spec s h.0)

pub final_known : (spec : AggSpec) (groups : Groups) (out : Rows) → AreRows spec groups out → AreFinal spec (states.Known groups) out
final_known spec groups out is s h = is ∙ rows_known spec s.rows groups h.1 ∙ sym (by_none spec s h.0)

pub final_of : (spec : AggSpec) (rows : Stream Row) (state : State) (out : Rows) → AreFinal spec state out → Holds spec (entries_by spec rows) state → seen out ≡ aggregated_by spec rows
unfolding aggregated
final_of spec rows state out is h = is (entries_by spec rows) h

-- ---- the loop over groups

pub first_rows : (f : ℕ → Result Row FaultKind) (count : ℕ) (none : List Row) → none ≡ [] → column f (range_with_len 0 count) ≡ ahead none (column f (range_with_len 0 (count - 0)))
first_rows f count none e =
    let all : count ≡ count - 0 = omega arith in
    ap (λ n. column f (range_with_len 0 n)) all ∙ ap (λ l. ahead l (column f (range_with_len 0 (count - 0)))) (sym e)

pub rows_next : (f : ℕ → Result Row FaultKind) (group count : ℕ) (rows more : List Row) (row : Row) → group < count → f group ≡ Ok row → more ≡ rows ++ row ∷ [] → column f (range_with_len 0 count) ≡ ahead rows (column f (range_with_len group (count - group))) → column f (range_with_len 0 count) ≡ ahead more (column f (range_with_len (group + 1) (count - (group + 1))))
rows_next f group count rows more row there gives pushed so_far =
    let left : count - group ≡ suc (count - (group + 1)) = omega (arith, there) in
    row_next f group (count - (group + 1)) rows more row (column f (range_with_len 0 count)) gives pushed (so_far ∙ ap (λ n. ahead rows (column f (range_with_len group n))) left)

pub rows_fault : (spec : AggSpec) (groups : Groups) (group : ℕ) (out : Rows) (rows : List Row) (kind : FaultKind) → group < length groups.keys.rows → row_at spec groups group ≡ Err kind → out.rows.items ≡ rows → out.end ≡ Some (fault_at spec.relation kind)
    → column (row_at spec groups) (range_with_len 0 (length groups.keys.rows)) ≡ ahead rows (column (row_at spec groups) (range_with_len group (length groups.keys.rows - group))) → AreRows spec groups out
rows_fault spec groups group out rows kind there gives is end so_far =
    let count = length groups.keys.rows in
    let f = row_at spec groups in
    let left : count - group ≡ suc (count - (group + 1)) = omega (arith, there) in
    ap₂ (λ (l : List Row) (one : Option Fault). record { rows = l; end = one }) is end
    ∙ sym (ap (stream_at spec.relation) (row_fault f group (count - (group + 1)) rows kind (column f (range_with_len 0 count)) gives (so_far ∙ ap (λ n. ahead rows (column f (range_with_len group n))) left)))

pub rows_done : (spec : AggSpec) (groups : Groups) (group : ℕ) (out : Rows) (rows : List Row) → length groups.keys.rows ≤ group → out.rows.items ≡ rows → out.end ≡ None
    → column (row_at spec groups) (range_with_len 0 (length groups.keys.rows)) ≡ ahead rows (column (row_at spec groups) (range_with_len group (length groups.keys.rows - group))) → AreRows spec groups out
rows_done spec groups group out rows all is end so_far =
    let count = length groups.keys.rows in
    let f = row_at spec groups in
    let none : count - group ≡ 0 = omega (arith, all) in
    ap₂ (λ (l : List Row) (one : Option Fault). record { rows = l; end = one }) is end
    ∙ sym (ap (stream_at spec.relation) (so_far ∙ ap (λ n. ahead rows (column f (range_with_len group n))) none ∙ ap (λ l. record { values = l; stop = None }) (append-nil rows)))

pub piece_of_rows : (spec : AggSpec) (rows : Stream Row) (state : State) (out : Rows) (batch : Batch) → rows_of batch ≡ out.rows.items → AreFinal spec state out → Holds spec (entries_by spec rows) state → ◌≡◌ {A = Stream Row} (record { rows = rows_of batch; end = out.end }) (aggregated_by spec rows)
piece_of_rows spec rows state out batch is final h = ap (λ (l : List Row). record { rows = l; end = out.end }) is ∙ final_of spec rows state out final h

-- ---- faults and want of memory

pub row_err : (error : EvalError) (r : Result (List Value) FaultKind) (key : Row) → Makes (Err error) r → Makes (Err error) (r >>= (λ found. Ok (key ++ found)))
row_err (errors.Fault kind) r key e = ap (λ one. one >>= (λ found. Ok (key ++ found))) e
row_err errors.NoMemory r key e = tt

pub final_err : (error : EvalError) (group place : ℕ) (measures : List TypedMeasure) (columns : List Tallies) (measure : TypedMeasure) (tallies : Tallies) (done : List Value)
    → place < length measures → place < length columns → measure ≡ get_or measures place measure → tallies ≡ get_or columns place tallies → Gives (Err error) (final measure.func measure.ty.kind (tally_at (tallies_in tallies) group))
    → finals_at group measures columns ≡ behind done (finals_at group (drop place measures) (drop place columns)) → Makes (Err error) (finals_at group measures columns)
final_err (errors.Fault kind) group place measures columns measure tallies done there within at of gives so_far = final_fault group place measures columns measure tallies done kind (finals_at group measures columns) there within at of gives so_far
final_err errors.NoMemory group place measures columns measure tallies done there within at of gives so_far = tt

pub same_at : {A B K : Type 0} (f : A → K) (g : B → K) (xs : List A) (ys : List B) (n : ℕ) (x : A) (y : B) → map f xs ≡ map g ys → n < length xs → n < length ys → x ≡ get_or xs n x → y ≡ get_or ys n y → f x ≡ g y
same_at f g xs ys n x y e there within at of =
    ap f at ∙ sym (get_or-map f xs n x (f x) there) ∙ ap (λ l. get_or l n (f x)) e ∙ get_or-map g ys n y (f x) within ∙ sym (ap g of)
