-- What is known of rows and of the rows behind them.
use Rattle.std.proofs.Common.{◌≡◌, ◌∙◌, ℕ, suc, ◌+◌, ◌<◌, ◌≤◌, List, [], ◌∷◌, ◌++◌, Bool, true, false, Option, Some, None, Result, Ok, Err, length, map, refl, sym, ap, ap₂, subst, arith}
use Rattle.std.specs.Prelude.{nat_le, not, ◌==◌}
use Rattle.std.specs.List.{All, AllByRecursion, range_with_len}
use Rattle.std.specs.Option.{option_map}
use Rattle.std.proofs.lemmas.Bool.Decides.{nat_tests}
use Rattle.std.proofs.lemmas.List.{length-map, length-append, map-append, append-nil}
use Rattle.std.proofs.lemmas.List.Elements.{All-head, All-rest}
use Rattle.std.proofs.lemmas.List.FromFn.{length-map-range_with_len}
use Rattle.sub_types.specs.declared.fault.Fault.{Fault}
use Rattle.sub_types.specs.declared.fault.FaultKind.{FaultKind}
use Rattle.sub_types.specs.declared.kind.Ty.{Ty}
use Rattle.sub_types.specs.Value.{Fits}
use Rattle.sub_types.specs.Stream.{Stream, ended, followed_by, glue, stream_of}
use Rattle.sub_types.proofs.StreamLaws.{followed_by_assoc, each_stream-followed_by}
use Rattle.plan_typed.specs.declared.expr.Expr.{Expr}
use Rattle.plan_denote.specs.Rows.{Row, at_relation, fault_at}
use Rattle.plan_denote.specs.Distinct.{is_same_row, distinct}
use Rattle.plan_denote.specs.Aggregate.{MAX_INPUT, Entry, entry_of, keys_in}
use Rattle.plan_denote.specs.Denote.{measure_of}
use Rattle.plan_denote.specs.Eval.{eval}
use Rattle.batch.specs.declared.batch.Batch.{Batch}
use Rattle.batch.specs.declared.batch.Piece.{Piece}
use Rattle.batch.specs.BatchRows.{rows_of, stream_of_piece}
use Rattle.rel_specs.specs.declared.groups.AggSpec.{AggSpec}
use Rattle.group_laws.specs.Columns.{stream_at}
use Rattle.group_laws.proofs.ColumnLaws.{entries_by_columns}
use Rattle.row_keys.specs.Keys.{key_of}
use Rattle.group_numbers.specs.Keys.{with_keys, keys_at}
use Rattle.group_numbers.proofs.DistinctLaws.{with_keys-distinct, distinct_keys}
use Rattle.group_columns.specs.Columns.{keys_of, IsWhole}
use Rattle.group_inputs.specs.declared.inputs.Inputs.{Inputs}
use Rattle.group_inputs.specs.Inputs.{entries_at, AreInputs}
use Rattle.group_tallies.specs.declared.tallies.Keeping.{Keeping}
use Rattle.group_tallies.specs.Kept.{keeping_in}
use Rattle.group_states.specs.declared.groups.Groups.{Groups}
use Rattle.group_states.specs.States.{IsSound, Knows, AreEntries, keys_before}
use Rattle.aggregate.specs.declared.partial.Partial.{Partial}
use Rattle.aggregate.specs.declared.state.State.{State}
use Rattle.aggregate.specs.declared.state.State.TheVariants as states
use Rattle.aggregate.specs.States.{IsKnown, Holds, IsFor, Stands, keeping, entries_by, is_lost_state, fault_in_state}
use Rattle.aggregate.specs.Folding.{IsPart, IsRead, AreTogether, AreMerged, many_next, many_and, or_end}

-- ---- streams

abbrev stream : {A : Type 0} → List A → Option Fault → Stream A
stream rows end = record { rows = rows; end = end }

ended_so : {A : Type 0} (rows : List A) (end : Option Fault) (more : Stream A) (fault : Fault) → end ≡ Some fault → (followed_by (stream rows end) more).end ≡ Some fault
ended_so rows None more fault e = absurd (cc)
ended_so rows (Some other) more fault e = e

pub stays_ended : {A : Type 0} (s more : Stream A) (fault : Fault) → s.end ≡ Some fault → (followed_by s more).end ≡ Some fault
stays_ended s more fault e = ended_so s.rows s.end more fault e

on_so : {A : Type 0} (rows : List A) (end : Option Fault) (more : Stream A) → end ≡ None → followed_by (stream rows end) more ≡ stream (rows ++ more.rows) more.end
on_so rows None more e = refl
on_so rows (Some other) more e = absurd (cc)

pub goes_on : {A : Type 0} (s more : Stream A) → s.end ≡ None → followed_by s more ≡ stream (s.rows ++ more.rows) more.end
goes_on s more e = on_so s.rows s.end more e

-- ---- entries of a piece

pub entries_of_piece : (spec : AggSpec) (piece : Piece)
    → entries_by spec (stream_of_piece piece) ≡ followed_by (stream_at spec.relation (entries_at spec.groups.items spec.measures.items piece.batch)) (ended piece.end)
entries_of_piece spec piece =
    let groups = map eval spec.groups.items in
    let measures = map measure_of spec.measures.items in
    let f = λ (row : Row). stream_of (at_relation spec.relation (entry_of groups measures row)) in
    let all = glue (map f (rows_of piece.batch)) in
    sym (followed_by_assoc all (ended None) (ended piece.end))
    ∙ ap (λ (s : Stream Entry). followed_by s (ended piece.end)) (entries_by_columns spec.relation groups measures (rows_of piece.batch))

pub read_fault : (spec : AggSpec) (piece : Piece) (kind : FaultKind) → (entries_at spec.groups.items spec.measures.items piece.batch).stop ≡ Some kind → (entries_by spec (stream_of_piece piece)).end ≡ Some (fault_at spec.relation kind)
read_fault spec piece kind e =
    let one = entries_at spec.groups.items spec.measures.items piece.batch in
    ap (λ (s : Stream Entry). s.end) (entries_of_piece spec piece)
    ∙ stays_ended (stream_at spec.relation one) (ended piece.end) (fault_at spec.relation kind) (ap (option_map (fault_at spec.relation)) e)

pub read_on : (spec : AggSpec) (piece : Piece) → (entries_at spec.groups.items spec.measures.items piece.batch).stop ≡ None
    → entries_by spec (stream_of_piece piece) ≡ record { rows = (entries_at spec.groups.items spec.measures.items piece.batch).values; end = piece.end }
read_on spec piece e =
    let one = entries_at spec.groups.items spec.measures.items piece.batch in
    entries_of_piece spec piece
    ∙ goes_on (stream_at spec.relation one) (ended piece.end) (ap (option_map (fault_at spec.relation)) e)
    ∙ ap (λ l. stream l piece.end) (append-nil one.values)

pub followed_entries : (spec : AggSpec) (rows more : Stream Row) → entries_by spec (followed_by rows more) ≡ followed_by (entries_by spec rows) (entries_by spec more)
followed_entries spec rows more = each_stream-followed_by (λ row. stream_of (at_relation spec.relation (entry_of (map eval spec.groups.items) (map measure_of spec.measures.items) row))) rows more

-- ---- keys

alone_again : (is : List ℕ) → with_keys ([] ∷ []) (map (λ (i : ℕ). []) is) ≡ [] ∷ []
alone_again [] = refl
alone_again (i ∷ is) = alone_again is

pub keys_more : (groups : List Expr) (kept : Batch) (places : List ℕ) (entries later : List Entry) → places ≡ range_with_len 0 (length groups) → keys_of later ≡ keys_at places kept
    → with_keys (keys_in (map eval groups) [] entries) (keys_at places kept) ≡ keys_in (map eval groups) [] (entries ++ later)
keys_more [] kept places entries later at is = ap (λ l. with_keys ([] ∷ []) (keys_at l kept)) at ∙ alone_again (range_with_len 0 kept.rows)
keys_more (group ∷ groups) kept places entries later at is =
    ap (with_keys (keys_in (map eval (group ∷ groups)) [] entries)) (sym is)
    ∙ with_keys-distinct (keys_of entries) (keys_of later)
    ∙ ap (distinct is_same_row) (sym (map-append (λ (entry : Entry). entry.0) entries later))

pub keys_both : (groups : List Expr) (entries more : List Entry) → with_keys (keys_in (map eval groups) [] entries) (keys_in (map eval groups) [] more) ≡ keys_in (map eval groups) [] (entries ++ more)
keys_both [] entries more = refl
keys_both (group ∷ groups) entries more = distinct_keys (keys_of entries) (keys_of more) ∙ ap (distinct is_same_row) (sym (map-append (λ (entry : Entry). entry.0) entries more))

-- ---- numbers of rows

pub few_or_not : (n : ℕ) → n ≤ MAX_INPUT → nat_le n MAX_INPUT ≡ true
few_or_not n h = grind (arith, nat_tests)

many_not : (n : ℕ) → MAX_INPUT < n → nat_le n MAX_INPUT ≡ false
many_not n h = grind (arith, nat_tests)

pub are_many : {A : Type 0} (xs ys : List A) → MAX_INPUT < length xs + length ys → nat_le (length (xs ++ ys)) MAX_INPUT ≡ false
are_many xs ys h = many_not (length (xs ++ ys)) (omega (arith, h, length-append xs ys))

are_over : (n : ℕ) → nat_le n MAX_INPUT ≡ false → MAX_INPUT < n
are_over n h = grind (arith, nat_tests)

pub still_many : {A : Type 0} (xs ys : List A) → nat_le (length xs) MAX_INPUT ≡ false → nat_le (length (xs ++ ys)) MAX_INPUT ≡ false
still_many xs ys h = are_many xs ys (omega (arith, are_over (length xs) h))

pub more_many : {A : Type 0} (xs ys : List A) → nat_le (length ys) MAX_INPUT ≡ false → nat_le (length (xs ++ ys)) MAX_INPUT ≡ false
more_many xs ys h = are_many xs ys (omega (arith, are_over (length ys) h))

pub many_entries : (columns : List ℕ) (kept : Batch) (later : List Entry) → keys_of later ≡ keys_at columns kept → length later ≡ kept.rows
many_entries columns kept later is = sym (length-map later (λ (entry : Entry). entry.0)) ∙ ap length is ∙ length-map-range_with_len (key_of columns kept) 0 kept.rows

-- ---- states

pub stands : (spec : AggSpec) (s : Stream Entry) (state : State) → Holds spec s state → Stands spec state
stands spec s (states.Known groups) h = let known = h.1 in (known.sound, known.kept, omega (arith, known.knows.rows, known.few))
stands spec s states.TooMany h = tt
stands spec s (states.Ended fault) h = tt
stands spec s states.Lost h = tt

pub for_stands : (types : List Ty) (spec : AggSpec) (partial : Partial) → IsFor types spec partial → Stands spec partial.state
for_stands types spec partial is = stands spec (entries_by spec is.rows) partial.state is.is

-- of rows and of a piece that ends them, and of one that doesn't
pub together_ended : (spec : AggSpec) (s more : Stream Entry) (fault : Fault) → s.end ≡ None → more.end ≡ Some fault → Holds spec (followed_by s more) (states.Ended fault)
together_ended spec s more fault e ended = ap (λ (one : Stream Entry). one.end) (goes_on s more e) ∙ ended

pub together_many : (spec : AggSpec) (s more : Stream Entry) → s.end ≡ None → more.end ≡ None → nat_le (length (s.rows ++ more.rows)) MAX_INPUT ≡ false → Holds spec (followed_by s more) states.TooMany
together_many spec s more e ended many =
    let on = goes_on s more e in
    (ap (λ (one : Stream Entry). one.end) on ∙ ended, ap (λ (one : Stream Entry). nat_le (length one.rows) MAX_INPUT) on ∙ many)

pub together_known : (spec : AggSpec) (s more : Stream Entry) (groups : Groups) → s.end ≡ None → more.end ≡ None → IsKnown spec (s.rows ++ more.rows) groups → Holds spec (followed_by s more) (states.Known groups)
together_known spec s more groups e ended known =
    let on = goes_on s more e in
    (ap (λ (one : Stream Entry). one.end) on ∙ ended, subst (λ (one : Stream Entry). IsKnown spec one.rows groups) (sym on) known)

-- ---- a piece's rows go to a state

pub ended_stays : (spec : AggSpec) (more : Stream Entry) (fault : Fault) → AreTogether spec (states.Ended fault) more (states.Ended fault)
ended_stays spec more fault s h = stays_ended s more fault h

pub many_goes_on : (spec : AggSpec) (more : Stream Entry) → more.end ≡ None → AreTogether spec states.TooMany more states.TooMany
many_goes_on spec more e s h = together_many spec s more h.0 e (still_many s.rows more.rows h.1)

pub many_ends : (spec : AggSpec) (more : Stream Entry) (fault : Fault) → more.end ≡ Some fault → AreTogether spec states.TooMany more (states.Ended fault)
many_ends spec more fault e s h = together_ended spec s more fault h.0 e

pub known_ends : (spec : AggSpec) (groups : Groups) (more : Stream Entry) (fault : Fault) → more.end ≡ Some fault → AreTogether spec (states.Known groups) more (states.Ended fault)
known_ends spec groups more fault e s h = together_ended spec s more fault h.0 e

pub inputs_too_many : (spec : AggSpec) (groups : Groups) (inputs : Inputs) (s more : Stream Entry) → Holds spec s (states.Known groups) → more.end ≡ None → IsPart spec more.rows inputs → MAX_INPUT < groups.rows + inputs.keys.rows → Holds spec (followed_by s more) states.TooMany
inputs_too_many spec groups inputs s more h e part over =
    let many = many_entries inputs.columns.items inputs.keys more.rows part.entries.keys in
    together_many spec s more h.0 e (are_many s.rows more.rows (omega (arith, over, h.1.knows.rows, many)))

pub inputs_known : (spec : AggSpec) (groups grown : Groups) (inputs : Inputs) (s more : Stream Entry) → Holds spec s (states.Known groups) → more.end ≡ None → IsPart spec more.rows inputs → groups.rows + inputs.keys.rows ≤ MAX_INPUT
    → IsSound grown → map keeping_in grown.columns.items ≡ map keeping_in groups.columns.items → grown.keys.rows ≡ with_keys groups.keys.rows (keys_at inputs.columns.items inputs.keys)
    → ((keepings : List Keeping) (entries later : List Entry) → Knows keepings entries groups → AreEntries inputs.columns.items inputs.keys inputs.taken.items later → Knows keepings (entries ++ later) grown)
    → Holds spec (followed_by s more) (states.Known grown)
inputs_known spec groups grown inputs s more h e part few sound kept keys knows =
    let many = many_entries inputs.columns.items inputs.keys more.rows part.entries.keys in
    let known = h.1 in
    together_known spec s more grown h.0 e (record {
      sound = sound;
      kept = kept ∙ known.kept;
      keys = keys ∙ ap (λ l. with_keys l (keys_at inputs.columns.items inputs.keys)) known.keys ∙ keys_more spec.groups.items inputs.keys inputs.columns.items s.rows more.rows part.places part.entries.keys;
      knows = knows (map keeping spec.measures.items) s.rows more.rows known.knows part.entries;
      few = omega (arith, few, known.knows.rows, many, length-append s.rows more.rows);
    })

-- ---- a state and a later one

pub ended_merged : (spec : AggSpec) (later : State) (fault : Fault) → AreMerged spec (states.Ended fault) later (states.Ended fault)
ended_merged spec later fault s more h g = stays_ended s more fault h

pub many_merged_ended : (spec : AggSpec) (fault : Fault) → AreMerged spec states.TooMany (states.Ended fault) (states.Ended fault)
many_merged_ended spec fault s more h g = together_ended spec s more fault h.0 g

pub many_merged_many : (spec : AggSpec) → AreMerged spec states.TooMany states.TooMany states.TooMany
many_merged_many spec s more h g = together_many spec s more h.0 g.0 (still_many s.rows more.rows h.1)

pub many_merged_known : (spec : AggSpec) (groups : Groups) → AreMerged spec states.TooMany (states.Known groups) states.TooMany
many_merged_known spec groups s more h g = together_many spec s more h.0 g.0 (still_many s.rows more.rows h.1)

pub known_merged_ended : (spec : AggSpec) (groups : Groups) (fault : Fault) → AreMerged spec (states.Known groups) (states.Ended fault) (states.Ended fault)
known_merged_ended spec groups fault s more h g = together_ended spec s more fault h.0 g

pub known_merged_many : (spec : AggSpec) (groups : Groups) → AreMerged spec (states.Known groups) states.TooMany states.TooMany
known_merged_many spec groups s more h g = together_many spec s more h.0 g.0 (more_many s.rows more.rows g.1)

pub both_too_many : (spec : AggSpec) (groups later : Groups) → MAX_INPUT < groups.rows + later.rows → AreMerged spec (states.Known groups) (states.Known later) states.TooMany
both_too_many spec groups later over s more h g = together_many spec s more h.0 g.0 (are_many s.rows more.rows (omega (arith, over, h.1.knows.rows, g.1.knows.rows)))

pub both_known : (spec : AggSpec) (groups later both : Groups) → groups.rows + later.rows ≤ MAX_INPUT → IsSound both → map keeping_in both.columns.items ≡ map keeping_in groups.columns.items → both.keys.rows ≡ with_keys groups.keys.rows later.keys.rows
    → ((keepings : List Keeping) (entries more : List Entry) → Knows keepings entries groups → Knows keepings more later → Knows keepings (entries ++ more) both)
    → AreMerged spec (states.Known groups) (states.Known later) (states.Known both)
both_known spec groups later both few sound kept keys knows s more h g =
    together_known spec s more both h.0 g.0 (record {
      sound = sound;
      kept = kept ∙ h.1.kept;
      keys = keys ∙ ap₂ with_keys h.1.keys g.1.keys ∙ keys_both spec.groups.items s.rows more.rows;
      knows = knows (map keeping spec.measures.items) s.rows more.rows h.1.knows g.1.knows;
      few = omega (arith, few, h.1.knows.rows, g.1.knows.rows, length-append s.rows more.rows);
    })

-- ---- what a state says of its rows' end

pub end_of : (spec : AggSpec) (s : Stream Entry) (state : State) → Holds spec s state → is_lost_state state ≡ false → fault_in_state state ≡ s.end
end_of spec s (states.Known groups) h e = sym h.0
end_of spec s states.TooMany h e = sym h.0
end_of spec s (states.Ended fault) h e = sym h
end_of spec s states.Lost h e = absurd (cc)

-- ---- of no rows

not_none : (n : ℕ) → true ≡ (suc n == 0) → ⊥
not_none n e = first_of (cc, grind (arith, nat_tests))

pub keys_first : (groups : List Expr) (none : Bool) → none ≡ (length groups == 0) → keys_before (not none) ≡ keys_in (map eval groups) [] []
keys_first [] true e = refl
keys_first [] false e = absurd (cc)
keys_first (group ∷ groups) false e = refl
keys_first (group ∷ groups) true e = absurd (not_none (length groups) e)

pub known_first : (spec : AggSpec) (groups : Groups) (none : Bool) → none ≡ (length spec.groups.items == 0) → IsSound groups → groups.keys.rows ≡ keys_before (not none) → map keeping_in groups.columns.items ≡ map keeping spec.measures.items → Knows (map keeping spec.measures.items) [] groups
    → IsKnown spec [] groups
known_first spec groups none is sound keys kept knows = record { sound = sound; kept = kept; keys = keys ∙ keys_first spec.groups.items none is; knows = knows; few = omega arith }

-- ---- rows that fit

both_fit : (types : List Ty) (xs ys : List Row) → AllByRecursion (Fits types) xs → AllByRecursion (Fits types) ys → AllByRecursion (Fits types) (xs ++ ys)
both_fit types [] ys all more = more
both_fit types (x ∷ xs) ys all more = (all.0, both_fit types xs ys all.1 more)

fit_so : (types : List Ty) (xs : List Row) (end : Option Fault) (more : Stream Row) → AllByRecursion (Fits types) xs → AllByRecursion (Fits types) more.rows → AllByRecursion (Fits types) (followed_by (stream xs end) more).rows
fit_so types xs None more all later = both_fit types xs more.rows all later
fit_so types xs (Some fault) more all later = all

pub fitting : (types : List Ty) (rows more : Stream Row) → AllByRecursion (Fits types) rows.rows → AllByRecursion (Fits types) more.rows → AllByRecursion (Fits types) (followed_by rows more).rows
fitting types rows more fit later = fit_so types rows.rows rows.end more fit later

-- ---- what is read of a piece

read_so : (spec : AggSpec) (input : Stream Row) (end : Option Fault) (inputs : Inputs) → (entries_by spec input).end ≡ end → IsPart spec (entries_by spec input).rows inputs → IsRead spec input (or_end end inputs)
read_so spec input None inputs e part = (e, part)
read_so spec input (Some fault) inputs e part = e

pub read_all : (spec : AggSpec) (piece : Piece) (inputs : Inputs) → AreInputs spec.groups.items spec.measures.items piece.batch inputs → IsRead spec (stream_of_piece piece) (or_end piece.end inputs)
read_all spec piece inputs are =
    let on = read_on spec piece are.none in
    read_so spec (stream_of_piece piece) piece.end inputs (ap (λ (s : Stream Entry). s.end) on) (record {
      entries = subst (λ (s : Stream Entry). AreEntries inputs.columns.items inputs.keys inputs.taken.items s.rows) (sym on) are.entries;
      places = are.places;
      columns = are.columns;
      all = are.all;
      whole = subst (λ n. All (IsWhole n) inputs.taken.items) (sym are.rows) are.whole;
    })

pub kept_many : {A B : Type 0} (f : A → Keeping) (g : B → Keeping) (xs : List A) (ys : List B) → map f xs ≡ map g ys → length xs ≡ length ys
kept_many f g xs ys e = sym (length-map xs f) ∙ ap length e ∙ length-map ys g

-- ---- a partial state and a piece's rows

to_each : {X : Type 0} (P : X → Type 0) (xs : List X) → All P xs → AllByRecursion P xs
to_each P [] all = tt
to_each P (x ∷ xs) all = (All-head P x xs all, to_each P xs (All-rest P x xs (x ∷ xs) refl all))

pub fold_of : (spec : AggSpec) (rows more : Stream Row) (state next : State) → AreTogether spec state (entries_by spec more) next → Holds spec (entries_by spec rows) state → Holds spec (entries_by spec (followed_by rows more)) next
fold_of spec rows more state next together h = subst (λ (s : Stream Entry). Holds spec s next) (sym (followed_entries spec rows more)) (together (entries_by spec rows) h)

pub fold_for : (types : List Ty) (spec : AggSpec) (piece : Piece) (old new : Partial) → All (Fits types) (rows_of piece.batch) → AreTogether spec old.state (entries_by spec (stream_of_piece piece)) new.state → IsFor types spec old → IsFor types spec new
fold_for types spec piece old new fit together is = record {
  over = is.over;
  rows = followed_by is.rows (stream_of_piece piece);
  fit = fitting types is.rows (stream_of_piece piece) is.fit (to_each (Fits types) (rows_of piece.batch) fit);
  is = fold_of spec is.rows (stream_of_piece piece) old.state new.state together is.is;
}

pub lost_for : (types : List Ty) (spec : AggSpec) (old new : Partial) → new.state ≡ states.Lost → IsFor types spec old → IsFor types spec new
lost_for types spec old new lost is = record { over = is.over; rows = is.rows; fit = is.fit; is = subst (Holds spec (entries_by spec is.rows)) (sym lost) tt }

pub merge_of : (spec : AggSpec) (rows more : Stream Row) (state later both : State) → AreMerged spec state later both → Holds spec (entries_by spec rows) state → Holds spec (entries_by spec more) later → Holds spec (entries_by spec (followed_by rows more)) both
merge_of spec rows more state later both merged h g = subst (λ (s : Stream Entry). Holds spec s both) (sym (followed_entries spec rows more)) (merged (entries_by spec rows) (entries_by spec more) h g)

pub merge_for : (types : List Ty) (spec : AggSpec) (old later new : Partial) → AreMerged spec old.state later.state new.state → IsFor types spec old → IsFor types spec later → IsFor types spec new
merge_for types spec old later new merged is more = record {
  over = is.over;
  rows = followed_by is.rows more.rows;
  fit = fitting types is.rows more.rows is.fit more.fit;
  is = merge_of spec is.rows more.rows old.state later.state new.state merged is.is more.is;
}

pub many_after_read : (spec : AggSpec) (input : Stream Row) (found : Result Inputs Fault) → IsRead spec input found → AreTogether spec states.TooMany (entries_by spec input) (many_next found)
many_after_read spec input (Ok inputs) is = many_goes_on spec (entries_by spec input) is.0
many_after_read spec input (Err fault) is = many_ends spec (entries_by spec input) fault is

pub many_merged_with : (spec : AggSpec) (later : State) → AreMerged spec states.TooMany later (many_and later)
many_merged_with spec (states.Known groups) = many_merged_known spec groups
many_merged_with spec states.TooMany = many_merged_many spec
many_merged_with spec (states.Ended fault) = many_merged_ended spec fault
many_merged_with spec states.Lost = λ s more h g. tt

pub never_lost : (found : Result Inputs Fault) (state : State) → state ≡ many_next found → is_lost_state state ≡ false
never_lost (Ok inputs) state e = ap is_lost_state e
never_lost (Err fault) state e = ap is_lost_state e
