-- The rows of groups, by what is kept of each.
use Rattle.std.specs.Prelude.{◌≡◌, ℕ, List, [], ◌∷◌, ◌++◌, Result, Ok, Err, map, length, slice_index_or}
use Rattle.std.specs.List.{range_with_len}
use Rattle.sub_types.specs.declared.fault.FaultKind.{FaultKind}
use Rattle.sub_types.specs.declared.kind.Ty.{Ty}
use Rattle.sub_types.specs.declared.value.Value.{Value}
use Rattle.sub_types.specs.Stream.{Stream}
use Rattle.plan_typed.specs.Types.{ty_of}
use Rattle.plan_typed.specs.declared.rel.TypedMeasure.{TypedMeasure}
use Rattle.plan_denote.specs.Rows.{Row, ◌>>=◌, from_all}
use Rattle.plan_denote.specs.Tally.{final}
use Rattle.plan_denote.specs.Aggregate.{Entry, summary, rows_of_summary}
use Rattle.plan_denote.specs.Denote.{measure_of}
use Rattle.plan_denote.specs.Eval.{eval}
use Rattle.rel_specs.specs.declared.groups.AggSpec.{AggSpec}
use Rattle.group_laws.specs.Columns.{column, stream_at}
use Rattle.eval_values.specs.declared.error.EvalError.{EvalError}
use Rattle.eval_values.specs.declared.error.EvalError.TheVariants as errors
use Rattle.group_tallies.specs.declared.tallies.Tallies.{Tallies}
use Rattle.group_tallies.specs.Kept.{tallies_in, tally_at}
use Rattle.group_states.specs.declared.groups.Groups.{Groups}
use Rattle.aggregate.specs.declared.finals.Rows.{Rows}
use Rattle.aggregate.specs.declared.state.State.{State}
use Rattle.aggregate.specs.States.{Holds}

-- the value or the fault is the defined one, unless no memory was found
abbrev pub Makes : {A : Type 0} → Result A EvalError → Result A FaultKind → Type 0
Makes (Ok x) expected = expected ≡ Ok x
Makes (Err (errors.Fault kind)) expected = expected ≡ Err kind
Makes (Err errors.NoMemory) expected = Unit {0}

-- what the measures give for a group, by its number, up to the first fault
abbrev pub finals_at : ℕ → List TypedMeasure → List Tallies → Result (List Value) FaultKind
finals_at group (measure ∷ measures) (tallies ∷ columns) = do
  value ← final measure.func measure.ty.kind (tally_at (tallies_in tallies) group)
  rest ← finals_at group measures columns
  Ok (value ∷ rest)
finals_at group _ _ = Ok []

-- the row of a group
abbrev pub row_at : AggSpec → Groups → ℕ → Result Row FaultKind
row_at spec groups group = do
  found ← finals_at group spec.measures.items groups.columns.items
  Ok (slice_index_or groups.keys.rows group [] ++ found)

-- the rows that an aggregate gives of all its rows
abbrev pub rows_by : AggSpec → Stream Entry → Stream Row
rows_by spec = from_all (λ entries. rows_of_summary spec.relation (map measure_of spec.measures.items) (summary (map eval spec.groups.items) (map measure_of spec.measures.items) entries))

-- the types of the rows that an aggregate gives
abbrev pub types_by : AggSpec → List Ty
types_by spec = map ty_of spec.groups.items ++ map (λ (measure : TypedMeasure). measure.ty) spec.measures.items

-- rows in memory, as a stream
abbrev pub seen : Rows → Stream Row
seen out = record { rows = out.rows.items; end = out.end }

-- the rows of groups in order, up to the first fault
abbrev pub AreRows : AggSpec → Groups → Rows → Type 0
AreRows spec groups out = seen out ≡ stream_at spec.relation (column (row_at spec groups) (range_with_len 0 (length groups.keys.rows)))

-- the rows that a state's rows give
abbrev pub AreFinal : AggSpec → State → Rows → Type 0
AreFinal spec state out = (s : Stream Entry) → Holds spec s state → seen out ≡ rows_by spec s
