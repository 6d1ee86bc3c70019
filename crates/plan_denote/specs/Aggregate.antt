-- Aggregates (Substrait `AggregateRel`).
use Rattle.std.specs.Prelude.{ℕ, suc, ◌^◌, List, [], ◌∷◌, ◌++◌, Bool, true, Option, Some, None, Result, Ok, map, length, min, nat_le, slice_index_or, if◌then◌else◌}
use Rattle.std.specs.List.{filter, filter_map, enumerate_from}
use Rattle.sub_types.specs.declared.fault.FaultKind.{FaultKind}
use Rattle.sub_types.specs.declared.fault.FaultKind.TheVariants as faults
use Rattle.sub_types.specs.declared.kind.Kind.{Kind}
use Rattle.sub_types.specs.declared.value.Value.{Value}
use Rattle.sub_types.specs.Stream.{Stream, rows_alone, ended}
use Rattle.plan_typed.specs.declared.expr.Func.{Func}
use Rattle.plan_denote.specs.Rows.{Row, Formula, ◌>>=◌, collect, condition_of, values_at, truth, is_true, fault_at, each_row, from_all}
use Rattle.plan_denote.specs.Distinct.{is_same_row, distinct}
pub use Rattle.plan_denote.specs.Tally.{Tally, not_null, tally_of, final}

-- the most rows of the input
abbrev pub MAX_INPUT : ℕ
MAX_INPUT = 2 ^ 40

-- a measure: a function over the argument's values at the rows for which the filter is true, and the kind of its result
pub record Measure : Type 0 where
  pub func : Func
  pub arg : Option Formula
  pub filter : Option Formula
  pub kind : Kind

-- without an argument rows are counted, and each stands for true
abbrev pub argument_of : Option Formula → Formula
argument_of None row = truth true
argument_of (Some arg) row = arg row

-- what a measure takes of a row: the argument's value, which may be null, where the filter is true, and else nothing
abbrev pub member_at : Row → Measure → Result (Option Value) FaultKind
member_at row measure = do
  test ← condition_of measure.filter row
  if is_true test then (argument_of measure.arg row >>= (λ value. Ok (Some value))) else Ok None

-- a row as the key of its group, and what each measure takes of it
abbrev pub Entry : Type 0
Entry = Row × List (Option Value)

-- the grouping expressions from left to right, and then each measure's filter and argument
abbrev pub entry_of : List Formula → List Measure → Row → Result (List Entry) FaultKind
entry_of groups measures row = do
  key ← values_at groups row
  members ← collect (map (member_at row) measures)
  Ok ((key, members) ∷ [])

-- the keys of the groups, each at its first appearance. Without grouping expressions there is one group, of the key that is given
-- for that, also for no rows.
abbrev pub keys_in : {A : Type 0} → List A → Row → List Entry → List Row
keys_in [] alone entries = alone ∷ []
keys_in (_ ∷ _) alone entries = distinct is_same_row (map (λ entry. entry.0) entries)

-- what the measure at this place takes of the rows of a group, nulls among them
abbrev pub members_in : List Entry → Row → ℕ → List Value
members_in entries key place = filter_map (λ entry. slice_index_or entry.1 place None) (filter (λ entry. is_same_row key entry.0) entries)

-- a group by its key, and a tally for each measure
pub record Group : Type 0 where
  pub key : Row
  pub tallies : List Tally

abbrev pub group_of : List Measure → List Entry → Row → Group
group_of measures entries key = record { key = key; tallies = map (λ one. tally_of (not_null (members_in entries key one.0))) (enumerate_from 0 measures) }

-- the values of all measures, or the first fault
abbrev pub finals : List Measure → List Tally → Result (List Value) FaultKind
finals (measure ∷ measures) (tally ∷ tallies) = do
  value ← final measure.func measure.kind tally
  rest ← finals measures tallies
  Ok (value ∷ rest)
finals _ _ = Ok []

-- the row of a group
abbrev pub group_row : List Measure → Group → Result (List Row) FaultKind
group_row measures group = do
  values ← finals measures group.tallies
  Ok ((group.key ++ values) ∷ [])

-- what is known of an aggregate's rows: how many they are, counted to one more than may be, and the groups where they aren't too many
pub record Summary : Type 0 where
  pub rows : ℕ
  pub groups : List Group

abbrev pub groups_if : Bool → List Group → List Group
groups_if few groups = if few then groups else []

unfoldable pub summary : List Formula → List Measure → List Entry → Summary
summary groups measures entries = record {
  rows = min (length entries) (suc MAX_INPUT);
  groups = groups_if (nat_le (length entries) MAX_INPUT) (map (group_of measures entries) (keys_in groups [] entries));
}

-- the rows of the groups in order, up to the first fault
unfoldable pub rows_of_summary : ℕ → List Measure → Summary → Stream Row
rows_of_summary number measures known =
    if nat_le known.rows MAX_INPUT
    then each_row number (group_row measures) (rows_alone known.groups)
    else ended (Some (fault_at number faults.TooManyRows))

unfoldable pub aggregated : ℕ → List Formula → List Measure → Stream Row → Stream Row
aggregated number groups measures input =
    from_all (λ entries. rows_of_summary number measures (summary groups measures entries)) (each_row number (entry_of groups measures) input)
