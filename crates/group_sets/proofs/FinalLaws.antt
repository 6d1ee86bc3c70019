-- The rows that a state of grouping sets gives.
use Rattle.std.proofs.Common.{◌≡◌, ◌∙◌, ℕ, List, [], ◌∷◌, false, Option, Some, None, length, map, refl, sym, ap, ap₂, Vec, Global, if◌then◌else◌}
use Rattle.std.specs.Prelude.{nat_le}
use Rattle.std.specs.List.{enumerate_from}
use Rattle.std.proofs.lemmas.List.{length-map}
use Rattle.sub_types.specs.declared.fault.Fault.{Fault}
use Rattle.sub_types.specs.declared.fault.FaultKind.TheVariants as faults
use Rattle.sub_types.specs.Stream.{Stream, ended, glue}
use Rattle.plan_typed.specs.declared.rel.SetMeasure.{SetMeasure}
use Rattle.plan_denote.specs.Rows.{Row, fault_at, each_row, from_all, unless_fault}
use Rattle.plan_denote.specs.Aggregate.{MAX_INPUT, Measure, Entry, entry_of}
use Rattle.plan_denote.specs.GroupSets.{AnyMeasure, set_number, rows_of_set, rows_of_sets, grouping_sets}
use Rattle.plan_denote.specs.Denote.{any_measure, measure_of}
use Rattle.plan_denote.specs.Eval.{eval}
use Rattle.plan_pipes.specs.RowMeaning.{sets_of, grouped_by}
use Rattle.batch.specs.declared.batch.Batch.{Batch}
use Rattle.batch.specs.BatchRows.{rows_of}
use Rattle.rel_specs.specs.declared.groups.SetSpec.{SetSpec}
use Rattle.set_states.specs.declared.sets.Sets.{Sets}
use Rattle.set_states.specs.States.{measure_in, AreKnown}
use Rattle.set_rows.specs.declared.rows.Rows.{Rows}
use Rattle.set_rows.specs.Rows.{seen}
use Rattle.group_sets.specs.declared.state.State.{State}
use Rattle.group_sets.specs.declared.state.State.TheVariants as states
use Rattle.group_sets.specs.States.{Holds, width_of, entries_by}
use Rattle.group_sets.specs.Finals.{rows_by, AreFinal}
use Rattle.group_sets.proofs.FoldLaws.{known_as}

abbrev any_of : SetSpec → List AnyMeasure
any_of spec = map any_measure spec.measures.items

by_none : (spec : SetSpec) (s : Stream Entry) → s.end ≡ None → rows_by spec s ≡ rows_of_sets spec.relation (width_of spec) (sets_of spec) (any_of spec) s.rows
by_none spec s e = ap (λ end. unless_fault end (rows_of_sets spec.relation (width_of spec) (sets_of spec) (any_of spec) s.rows)) e

by_fault : (spec : SetSpec) (s : Stream Entry) (fault : Fault) → s.end ≡ Some fault → rows_by spec s ≡ ended (Some fault)
by_fault spec s fault e = ap (λ end. unless_fault end (rows_of_sets spec.relation (width_of spec) (sets_of spec) (any_of spec) s.rows)) e

rows_many : (spec : SetSpec) (entries : List Entry) → nat_le (length entries) MAX_INPUT ≡ false → rows_of_sets spec.relation (width_of spec) (sets_of spec) (any_of spec) entries ≡ ended (Some (fault_at spec.relation faults.TooManyRows))
unfolding rows_of_sets
rows_many spec entries many =
    ap (λ b. if b then glue (map (λ (one : ℕ × List ℕ). rows_of_set spec.relation (width_of spec) (any_of spec) entries one.1 (set_number (sets_of spec) one.0)) (enumerate_from 0 (sets_of spec))) else ended (Some (fault_at spec.relation faults.TooManyRows))) many

pub final_ended : (spec : SetSpec) (fault : Fault) (out : Rows) → out.rows.items ≡ [] → out.end ≡ Some fault → AreFinal spec (states.Ended fault) out
final_ended spec fault out none end s h = ap₂ (λ (rows : List Row) (one : Option Fault). record { rows = rows; end = one }) none end ∙ sym (by_fault spec s fault h)

pub final_many : (spec : SetSpec) (out : Rows) → out.rows.items ≡ [] → out.end ≡ Some (fault_at spec.relation faults.TooManyRows) → AreFinal spec states.TooMany out
final_many spec out none end s h =
    ap₂ (λ (rows : List Row) (one : Option Fault). record { rows = rows; end = one }) none end
    ∙ sym (rows_many spec s.rows h.1) ∙ sym (by_none spec s h.0)

-- the rows of sets, by the parts of the aggregate
abbrev rows_over : SetSpec → ℕ → List (Vec ℕ Global) → List SetMeasure → List Entry → Stream Row
rows_over spec width sets measures entries = rows_of_sets spec.relation width (map (λ (set : Vec ℕ Global). set.items) sets) (map any_measure measures) entries

rows_as : (spec : SetSpec) (width : ℕ) (sets : List (Vec ℕ Global)) (measures : List SetMeasure) (entries : List Entry) → width ≡ width_of spec → sets ≡ spec.sets.items → measures ≡ spec.measures.items
    → rows_over spec width sets measures entries ≡ rows_of_sets spec.relation (width_of spec) (sets_of spec) (any_of spec) entries
rows_as spec width sets measures entries w s m =
    ap (λ (n : ℕ). rows_over spec n sets measures entries) w
    ∙ ap (λ (l : List (Vec ℕ Global)). rows_over spec (width_of spec) l measures entries) s
    ∙ ap (λ (l : List SetMeasure). rows_over spec (width_of spec) spec.sets.items l entries) m

pub final_known : (spec : SetSpec) (all : Sets) (out : Rows) (width : ℕ) (sets : List (Vec ℕ Global)) (measures : List SetMeasure) → width ≡ width_of spec → sets ≡ spec.sets.items → measures ≡ spec.measures.items
    → ((entries : List Entry) → AreKnown width measures (map (λ (set : Vec ℕ Global). set.items) sets) entries all → seen out ≡ rows_over spec width sets measures entries) → AreFinal spec (states.Known all) out
final_known spec all out width sets measures w s m gives input h =
    gives input.rows (known_as spec input.rows all width sets measures w s m h.1) ∙ rows_as spec width sets measures input.rows w s m ∙ sym (by_none spec input h.0)

-- the measures, as over all values
plain_are : (measures : List SetMeasure) → map measure_of (map measure_in measures) ≡ map (λ (one : AnyMeasure). one.measure) (map any_measure measures)
plain_are [] = refl
plain_are (one ∷ measures) = ap (λ l. measure_of one.measure ∷ l) (plain_are measures)

pub final_of : (spec : SetSpec) (rows : Stream Row) (state : State) (out : Rows) → AreFinal spec state out → Holds spec (entries_by spec rows) state → seen out ≡ grouped_by spec rows
unfolding grouping_sets
final_of spec rows state out is h =
    let groups = map eval spec.groups.items in
    is (entries_by spec rows) h
    ∙ ap₂ (λ (n : ℕ) (measures : List Measure). from_all (rows_of_sets spec.relation n (sets_of spec) (any_of spec)) (each_row spec.relation (entry_of groups measures) rows)) (sym (length-map spec.groups.items eval)) (plain_are spec.measures.items)

pub piece_of_rows : (spec : SetSpec) (rows : Stream Row) (state : State) (out : Rows) (batch : Batch) → rows_of batch ≡ out.rows.items → AreFinal spec state out → Holds spec (entries_by spec rows) state → ◌≡◌ {A = Stream Row} (record { rows = rows_of batch; end = out.end }) (grouped_by spec rows)
piece_of_rows spec rows state out batch is final h = ap (λ (l : List Row). record { rows = l; end = out.end }) is ∙ final_of spec rows state out final h
