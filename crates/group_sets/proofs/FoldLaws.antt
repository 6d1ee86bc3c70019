-- What is known of rows and of the rows behind them.
use Rattle.std.proofs.Common.{◌≡◌, ◌∙◌, ℕ, zero, suc, ◌+◌, ◌<◌, ◌≤◌, List, [], ◌∷◌, ◌++◌, false, Option, Some, None, Result, Ok, Err, length, map, get_or, refl, sym, ap, subst, arith, Vec, Global}
use Rattle.std.specs.Prelude.{nat_le}
use Rattle.std.specs.List.{All, AllByRecursion, range_with_len}
use Rattle.std.specs.Option.{option_map}
use Rattle.std.proofs.lemmas.List.{append-nil}
use Rattle.std.proofs.lemmas.List.Elements.{All-head, All-rest, All-get_or}
use Rattle.std.proofs.lemmas.List.FromFn.{length-range_with_len, get_or-range_with_len}
use Rattle.sub_types.specs.declared.fault.Fault.{Fault}
use Rattle.sub_types.specs.declared.fault.FaultKind.{FaultKind}
use Rattle.sub_types.specs.declared.kind.Ty.{Ty}
use Rattle.sub_types.specs.Value.{Fits}
use Rattle.sub_types.specs.Stream.{Stream, ended, followed_by, glue, stream_of}
use Rattle.sub_types.proofs.StreamLaws.{followed_by_assoc, each_stream-followed_by}
use Rattle.plan_denote.specs.Rows.{Row, at_relation, fault_at}
use Rattle.plan_denote.specs.Aggregate.{MAX_INPUT, Entry, entry_of}
use Rattle.plan_denote.specs.Eval.{eval}
use Rattle.batch.specs.declared.batch.Piece.{Piece}
use Rattle.batch.specs.BatchRows.{rows_of, stream_of_piece}
use Rattle.plan_typed.specs.declared.rel.SetMeasure.{SetMeasure}
use Rattle.plan_typed.specs.declared.rel.TypedMeasure.{TypedMeasure}
use Rattle.plan_pipes.specs.RowMeaning.{sets_of}
use Rattle.rel_specs.specs.declared.groups.SetSpec.{SetSpec}
use Rattle.group_laws.specs.Columns.{stream_at}
use Rattle.group_laws.proofs.ColumnLaws.{entries_by_columns}
use Rattle.group_inputs.specs.Inputs.{entries_at}
use Rattle.set_inputs.specs.declared.inputs.SetInputs.{SetInputs}
use Rattle.set_inputs.specs.Inputs.{AreInputs}
use Rattle.set_inputs.proofs.KeyLaws.{rows_many}
use Rattle.set_states.specs.declared.sets.Sets.{Sets}
use Rattle.set_states.specs.States.{AreKnown, measure_in}
use Rattle.aggregate.proofs.FoldLaws.{stays_ended, goes_on, are_many, still_many, more_many, fitting}
use Rattle.group_sets.specs.declared.partial.SetsPartial.{SetsPartial}
use Rattle.group_sets.specs.declared.state.State.{State}
use Rattle.group_sets.specs.declared.state.State.TheVariants as states
use Rattle.group_sets.specs.States.{IsKnown, Holds, IsFor, Stands, width_of, measures_of, entries_by, is_lost_state, fault_in_state}
use Rattle.group_sets.specs.Folding.{IsPart, IsRead, AreTogether, AreMerged, many_next, many_and, or_end}

abbrev stream : {A : Type 0} → List A → Option Fault → Stream A
stream rows end = record { rows = rows; end = end }

-- ---- entries of a piece

pub entries_of_piece : (spec : SetSpec) (piece : Piece)
    → entries_by spec (stream_of_piece piece) ≡ followed_by (stream_at spec.relation (entries_at spec.groups.items (map measure_in spec.measures.items) piece.batch)) (ended piece.end)
entries_of_piece spec piece =
    let groups = map eval spec.groups.items in
    let measures = measures_of spec in
    let f = λ (row : Row). stream_of (at_relation spec.relation (entry_of groups measures row)) in
    let all = glue (map f (rows_of piece.batch)) in
    sym (followed_by_assoc all (ended None) (ended piece.end))
    ∙ ap (λ (s : Stream Entry). followed_by s (ended piece.end)) (entries_by_columns spec.relation groups measures (rows_of piece.batch))

pub read_fault : (spec : SetSpec) (piece : Piece) (kind : FaultKind) → (entries_at spec.groups.items (map measure_in spec.measures.items) piece.batch).stop ≡ Some kind → (entries_by spec (stream_of_piece piece)).end ≡ Some (fault_at spec.relation kind)
read_fault spec piece kind e =
    let one = entries_at spec.groups.items (map measure_in spec.measures.items) piece.batch in
    ap (λ (s : Stream Entry). s.end) (entries_of_piece spec piece)
    ∙ stays_ended (stream_at spec.relation one) (ended piece.end) (fault_at spec.relation kind) (ap (option_map (fault_at spec.relation)) e)

pub read_on : (spec : SetSpec) (piece : Piece) → (entries_at spec.groups.items (map measure_in spec.measures.items) piece.batch).stop ≡ None
    → entries_by spec (stream_of_piece piece) ≡ record { rows = (entries_at spec.groups.items (map measure_in spec.measures.items) piece.batch).values; end = piece.end }
read_on spec piece e =
    let one = entries_at spec.groups.items (map measure_in spec.measures.items) piece.batch in
    entries_of_piece spec piece
    ∙ goes_on (stream_at spec.relation one) (ended piece.end) (ap (option_map (fault_at spec.relation)) e)
    ∙ ap (λ l. stream l piece.end) (append-nil one.values)

pub followed_entries : (spec : SetSpec) (rows more : Stream Row) → entries_by spec (followed_by rows more) ≡ followed_by (entries_by spec rows) (entries_by spec more)
followed_entries spec rows more = each_stream-followed_by (λ row. stream_of (at_relation spec.relation (entry_of (map eval spec.groups.items) (measures_of spec) row))) rows more

-- ---- states

pub stands : (spec : SetSpec) (s : Stream Entry) (state : State) → Holds spec s state → Stands spec state
stands spec s (states.Known sets) h = (s.rows, h.1)
stands spec s states.TooMany h = tt
stands spec s (states.Ended fault) h = tt
stands spec s states.Lost h = tt

pub for_stands : (types : List Ty) (spec : SetSpec) (partial : SetsPartial) → IsFor types spec partial → Stands spec partial.state
for_stands types spec partial is = stands spec (entries_by spec is.rows) partial.state is.is

-- of rows and of a piece that ends them, and of one that doesn't
pub together_ended : (spec : SetSpec) (s more : Stream Entry) (fault : Fault) → s.end ≡ None → more.end ≡ Some fault → Holds spec (followed_by s more) (states.Ended fault)
together_ended spec s more fault e ended = ap (λ (one : Stream Entry). one.end) (goes_on s more e) ∙ ended

pub together_many : (spec : SetSpec) (s more : Stream Entry) → s.end ≡ None → more.end ≡ None → nat_le (length (s.rows ++ more.rows)) MAX_INPUT ≡ false → Holds spec (followed_by s more) states.TooMany
together_many spec s more e ended many =
    let on = goes_on s more e in
    (ap (λ (one : Stream Entry). one.end) on ∙ ended, ap (λ (one : Stream Entry). nat_le (length one.rows) MAX_INPUT) on ∙ many)

pub together_known : (spec : SetSpec) (s more : Stream Entry) (groups : Sets) → s.end ≡ None → more.end ≡ None → IsKnown spec (s.rows ++ more.rows) groups → Holds spec (followed_by s more) (states.Known groups)
together_known spec s more groups e ended known =
    let on = goes_on s more e in
    (ap (λ (one : Stream Entry). one.end) on ∙ ended, subst (λ (one : Stream Entry). IsKnown spec one.rows groups) (sym on) known)

-- ---- what is known, by the parts of the aggregate

pub known_as : (spec : SetSpec) (entries : List Entry) (all : Sets) (width : ℕ) (sets : List (Vec ℕ Global)) (measures : List SetMeasure) → width ≡ width_of spec → sets ≡ spec.sets.items → measures ≡ spec.measures.items → IsKnown spec entries all
    → AreKnown width measures (map (λ (set : Vec ℕ Global). set.items) sets) entries all
known_as spec entries all width sets measures w s m known =
    subst (λ (n : ℕ). AreKnown n measures (map (λ (set : Vec ℕ Global). set.items) sets) entries all) (sym w)
    (subst (λ (l : List (Vec ℕ Global)). AreKnown (width_of spec) measures (map (λ (set : Vec ℕ Global). set.items) l) entries all) (sym s)
    (subst (λ (l : List SetMeasure). AreKnown (width_of spec) l (sets_of spec) entries all) (sym m) known))

pub known_so : (spec : SetSpec) (entries : List Entry) (all : Sets) (width : ℕ) (sets : List (Vec ℕ Global)) (measures : List SetMeasure) → width ≡ width_of spec → sets ≡ spec.sets.items → measures ≡ spec.measures.items
    → AreKnown width measures (map (λ (set : Vec ℕ Global). set.items) sets) entries all → IsKnown spec entries all
known_so spec entries all width sets measures w s m known =
    subst (λ (l : List SetMeasure). AreKnown (width_of spec) l (sets_of spec) entries all) m
    (subst (λ (l : List (Vec ℕ Global)). AreKnown (width_of spec) measures (map (λ (set : Vec ℕ Global). set.items) l) entries all) s
    (subst (λ (n : ℕ). AreKnown n measures (map (λ (set : Vec ℕ Global). set.items) sets) entries all) w known))

pub part_as : (spec : SetSpec) (later : List Entry) (given : SetInputs) (width : ℕ) (measures : List SetMeasure) → width ≡ width_of spec → measures ≡ spec.measures.items → IsPart spec later given → AreInputs width measures later given
part_as spec later given width measures w m part = subst (λ (n : ℕ). AreInputs n measures later given) (sym w) (subst (λ (l : List SetMeasure). AreInputs (width_of spec) l later given) (sym m) part)

pub none_known : (spec : SetSpec) (all : Sets) (sets : ℕ) (measures : List SetMeasure) → length (sets_of spec) ≡ sets → measures ≡ spec.measures.items
    → ((width : ℕ) (places : List (List ℕ)) → length places ≡ sets → AreKnown width measures places [] all) → IsKnown spec [] all
none_known spec all sets measures s m known = subst (λ (l : List SetMeasure). AreKnown (width_of spec) l (sets_of spec) [] all) m (known (width_of spec) (sets_of spec) s)

-- so many columns are there
pub are_columns : (width columns : ℕ) → All (λ column. column < columns) (range_with_len 0 width) → width ≤ columns
are_columns zero columns all = omega arith
are_columns (suc width) columns all =
    let long : width < length (range_with_len 0 (suc width)) = omega (arith, length-range_with_len 0 (suc width)) in
    let last : get_or (range_with_len 0 (suc width)) width 0 < columns = All-get_or (λ column. column < columns) (range_with_len 0 (suc width)) width 0 long all in
    omega (arith, last, get_or-range_with_len 0 (suc width) width 0 (omega arith))

-- ---- a piece's rows go to a state

pub ended_stays : (spec : SetSpec) (more : Stream Entry) (fault : Fault) → AreTogether spec (states.Ended fault) more (states.Ended fault)
ended_stays spec more fault s h = stays_ended s more fault h

pub many_goes_on : (spec : SetSpec) (more : Stream Entry) → more.end ≡ None → AreTogether spec states.TooMany more states.TooMany
many_goes_on spec more e s h = together_many spec s more h.0 e (still_many s.rows more.rows h.1)

pub many_ends : (spec : SetSpec) (more : Stream Entry) (fault : Fault) → more.end ≡ Some fault → AreTogether spec states.TooMany more (states.Ended fault)
many_ends spec more fault e s h = together_ended spec s more fault h.0 e

pub known_ends : (spec : SetSpec) (groups : Sets) (more : Stream Entry) (fault : Fault) → more.end ≡ Some fault → AreTogether spec (states.Known groups) more (states.Ended fault)
known_ends spec groups more fault e s h = together_ended spec s more fault h.0 e

pub inputs_too_many : (spec : SetSpec) (sets : Sets) (given : SetInputs) (s more : Stream Entry) → Holds spec s (states.Known sets) → more.end ≡ None → IsPart spec more.rows given → MAX_INPUT < sets.rows + given.batch.rows → Holds spec (followed_by s more) states.TooMany
inputs_too_many spec sets given s more h e part over =
    let many = rows_many (width_of spec) spec.measures.items more.rows given part in
    together_many spec s more h.0 e (are_many s.rows more.rows (omega (arith, over, h.1.rows, many)))

pub inputs_known : (spec : SetSpec) (sets grown : Sets) (given : SetInputs) (s more : Stream Entry) → Holds spec s (states.Known sets) → more.end ≡ None → IsPart spec more.rows given
    → ((entries later : List Entry) → IsKnown spec entries sets → IsPart spec later given → IsKnown spec (entries ++ later) grown) → Holds spec (followed_by s more) (states.Known grown)
inputs_known spec sets grown given s more h e part grows = together_known spec s more grown h.0 e (grows s.rows more.rows h.1 part)

-- ---- a state and a later one

pub ended_merged : (spec : SetSpec) (later : State) (fault : Fault) → AreMerged spec (states.Ended fault) later (states.Ended fault)
ended_merged spec later fault s more h g = stays_ended s more fault h

pub many_merged_ended : (spec : SetSpec) (fault : Fault) → AreMerged spec states.TooMany (states.Ended fault) (states.Ended fault)
many_merged_ended spec fault s more h g = together_ended spec s more fault h.0 g

pub many_merged_many : (spec : SetSpec) → AreMerged spec states.TooMany states.TooMany states.TooMany
many_merged_many spec s more h g = together_many spec s more h.0 g.0 (still_many s.rows more.rows h.1)

pub many_merged_known : (spec : SetSpec) (groups : Sets) → AreMerged spec states.TooMany (states.Known groups) states.TooMany
many_merged_known spec groups s more h g = together_many spec s more h.0 g.0 (still_many s.rows more.rows h.1)

pub known_merged_ended : (spec : SetSpec) (groups : Sets) (fault : Fault) → AreMerged spec (states.Known groups) (states.Ended fault) (states.Ended fault)
known_merged_ended spec groups fault s more h g = together_ended spec s more fault h.0 g

pub known_merged_many : (spec : SetSpec) (groups : Sets) → AreMerged spec (states.Known groups) states.TooMany states.TooMany
known_merged_many spec groups s more h g = together_many spec s more h.0 g.0 (more_many s.rows more.rows g.1)

pub both_too_many : (spec : SetSpec) (sets later : Sets) → MAX_INPUT < sets.rows + later.rows → AreMerged spec (states.Known sets) (states.Known later) states.TooMany
both_too_many spec sets later over s more h g = together_many spec s more h.0 g.0 (are_many s.rows more.rows (omega (arith, over, h.1.rows, g.1.rows)))

pub both_known : (spec : SetSpec) (sets later both : Sets) → ((entries more : List Entry) → IsKnown spec entries sets → IsKnown spec more later → IsKnown spec (entries ++ more) both)
    → AreMerged spec (states.Known sets) (states.Known later) (states.Known both)
both_known spec sets later both merges s more h g = together_known spec s more both h.0 g.0 (merges s.rows more.rows h.1 g.1)

-- ---- what a state says of its rows' end

pub end_of : (spec : SetSpec) (s : Stream Entry) (state : State) → Holds spec s state → is_lost_state state ≡ false → fault_in_state state ≡ s.end
end_of spec s (states.Known groups) h e = sym h.0
end_of spec s states.TooMany h e = sym h.0
end_of spec s (states.Ended fault) h e = sym h
end_of spec s states.Lost h e = absurd (cc)

-- ---- what is read of a piece

pub read_so : (spec : SetSpec) (input : Stream Row) (end : Option Fault) (given : SetInputs) → (entries_by spec input).end ≡ end → IsPart spec (entries_by spec input).rows given → IsRead spec input (or_end end given)
read_so spec input None given e part = (e, part)
read_so spec input (Some fault) given e part = e

pub read_all : (spec : SetSpec) (piece : Piece) (given : SetInputs) → (entries_at spec.groups.items (map measure_in spec.measures.items) piece.batch).stop ≡ None
    → AreInputs (width_of spec) spec.measures.items (entries_at spec.groups.items (map measure_in spec.measures.items) piece.batch).values given → IsRead spec (stream_of_piece piece) (or_end piece.end given)
read_all spec piece given none are =
    let on = read_on spec piece none in
    read_so spec (stream_of_piece piece) piece.end given (ap (λ (s : Stream Entry). s.end) on) (subst (λ (s : Stream Entry). IsPart spec s.rows given) (sym on) are)

-- ---- a partial state and a piece's rows

to_each : {X : Type 0} (P : X → Type 0) (xs : List X) → All P xs → AllByRecursion P xs
to_each P [] all = tt
to_each P (x ∷ xs) all = (All-head P x xs all, to_each P xs (All-rest P x xs (x ∷ xs) refl all))

pub fold_of : (spec : SetSpec) (rows more : Stream Row) (state next : State) → AreTogether spec state (entries_by spec more) next → Holds spec (entries_by spec rows) state → Holds spec (entries_by spec (followed_by rows more)) next
fold_of spec rows more state next together h = subst (λ (s : Stream Entry). Holds spec s next) (sym (followed_entries spec rows more)) (together (entries_by spec rows) h)

pub fold_for : (types : List Ty) (spec : SetSpec) (piece : Piece) (old new : SetsPartial) → All (Fits types) (rows_of piece.batch) → AreTogether spec old.state (entries_by spec (stream_of_piece piece)) new.state → new.plain ≡ old.plain → IsFor types spec old → IsFor types spec new
fold_for types spec piece old new fit together same is = record {
  over = is.over;
  rows = followed_by is.rows (stream_of_piece piece);
  fit = fitting types is.rows (stream_of_piece piece) is.fit (to_each (Fits types) (rows_of piece.batch) fit);
  is = fold_of spec is.rows (stream_of_piece piece) old.state new.state together is.is;
  plain = ap (λ (l : Vec TypedMeasure Global). l.items) same ∙ is.plain;
}

pub lost_for : (types : List Ty) (spec : SetSpec) (old new : SetsPartial) → new.state ≡ states.Lost → new.plain ≡ old.plain → IsFor types spec old → IsFor types spec new
lost_for types spec old new lost same is = record {
  over = is.over;
  rows = is.rows;
  fit = is.fit;
  is = subst (Holds spec (entries_by spec is.rows)) (sym lost) tt;
  plain = ap (λ (l : Vec TypedMeasure Global). l.items) same ∙ is.plain;
}

pub merge_of : (spec : SetSpec) (rows more : Stream Row) (state later both : State) → AreMerged spec state later both → Holds spec (entries_by spec rows) state → Holds spec (entries_by spec more) later → Holds spec (entries_by spec (followed_by rows more)) both
merge_of spec rows more state later both merged h g = subst (λ (s : Stream Entry). Holds spec s both) (sym (followed_entries spec rows more)) (merged (entries_by spec rows) (entries_by spec more) h g)

pub merge_for : (types : List Ty) (spec : SetSpec) (old later new : SetsPartial) → AreMerged spec old.state later.state new.state → new.plain ≡ old.plain → IsFor types spec old → IsFor types spec later → IsFor types spec new
merge_for types spec old later new merged same is more = record {
  over = is.over;
  rows = followed_by is.rows more.rows;
  fit = fitting types is.rows more.rows is.fit more.fit;
  is = merge_of spec is.rows more.rows old.state later.state new.state merged is.is more.is;
  plain = ap (λ (l : Vec TypedMeasure Global). l.items) same ∙ is.plain;
}

pub many_after_read : (spec : SetSpec) (input : Stream Row) (found : Result SetInputs Fault) → IsRead spec input found → AreTogether spec states.TooMany (entries_by spec input) (many_next found)
many_after_read spec input (Ok given) is = many_goes_on spec (entries_by spec input) is.0
many_after_read spec input (Err fault) is = many_ends spec (entries_by spec input) fault is

pub many_merged_with : (spec : SetSpec) (later : State) → AreMerged spec states.TooMany later (many_and later)
many_merged_with spec (states.Known groups) = many_merged_known spec groups
many_merged_with spec states.TooMany = many_merged_many spec
many_merged_with spec (states.Ended fault) = many_merged_ended spec fault
many_merged_with spec states.Lost = λ s more h g. tt

pub never_lost : (found : Result SetInputs Fault) (state : State) → state ≡ many_next found → is_lost_state state ≡ false
never_lost (Ok given) state e = ap is_lost_state e
never_lost (Err fault) state e = ap is_lost_state e
