-- Aggregates over several sets of their groups (a set is the places of some grouping expressions), and over distinct values (Substrait `AggregateRel.groupings`, `AggregateFunction.invocation`).
use Rattle.std.specs.Prelude.{ℕ, pos, List, [], ◌∷◌, ◌++◌, Bool, Some, Result, Ok, map, length, nat_le, ◌==◌, slice_index_or, if◌then◌else◌}
use Rattle.std.specs.List.{list_any, range_with_len, enumerate_from}
use Rattle.sub_types.specs.declared.fault.FaultKind.{FaultKind}
use Rattle.sub_types.specs.declared.fault.FaultKind.TheVariants as faults
use Rattle.sub_types.specs.declared.value.Value.{Value}
use Rattle.sub_types.specs.declared.value.Value.TheVariants as values
use Rattle.sub_types.specs.Stream.{Stream, rows_alone, ended, glue}
use Rattle.plan_denote.specs.Rows.{Row, Formula, ◌>>=◌, fault_at, each_row, from_all}
use Rattle.plan_denote.specs.Order.{is_same}
use Rattle.plan_denote.specs.Distinct.{distinct}
use Rattle.plan_denote.specs.Join.{nulls}
use Rattle.plan_denote.specs.Aggregate.{MAX_INPUT, Measure, Entry, Group, entry_of, keys_in, members_in, not_null, tally_of, finals}

-- a measure over all values, or over distinct ones
pub record AnyMeasure : Type 0 where
  pub measure : Measure
  pub distinct : Bool

-- a row's key in a set of groups: null for the groups that the set lacks
abbrev pub key_over : List ℕ → Row → Row
key_over set key = map (λ place. if list_any (λ one. one == place) set then slice_index_or key place values.Null else values.Null) (range_with_len 0 (length key))

abbrev pub entry_in : List ℕ → Entry → Entry
entry_in set entry = (key_over set entry.0, entry.1)

-- each value once, where that is asked for
abbrev pub once : Bool → List Value → List Value
once is_distinct members = if is_distinct then distinct is_same members else members

abbrev pub group_over : List AnyMeasure → List Entry → Row → Group
group_over measures entries key = record { key = key; tallies = map (λ one. tally_of (not_null (once one.1.distinct (members_in entries key one.0)))) (enumerate_from 0 measures) }

-- the number of a set, where there is more than one
abbrev pub set_number : List (List ℕ) → ℕ → Row
set_number (_ ∷ _ ∷ _) place = values.Int (pos place) ∷ []
set_number _ place = []

-- the row of a group of a set: the key, the measures, and the set's number
abbrev pub set_row : List AnyMeasure → Row → Group → Result (List Row) FaultKind
set_row measures numbered group = do
  values ← finals (map (λ one. one.measure) measures) group.tallies
  Ok ((group.key ++ values ++ numbered) ∷ [])

-- the rows of a set's groups
abbrev pub rows_of_set : ℕ → ℕ → List AnyMeasure → List Entry → List ℕ → Row → Stream Row
rows_of_set number width measures entries set numbered = let own = map (entry_in set) entries in
    each_row number (set_row measures numbered) (rows_alone (map (group_over measures own) (keys_in set (nulls width) own)))

-- the rows of set after set, up to the first fault
unfoldable pub rows_of_sets : ℕ → ℕ → List (List ℕ) → List AnyMeasure → List Entry → Stream Row
rows_of_sets number width sets measures entries =
    if nat_le (length entries) MAX_INPUT
    then glue (map (λ one. rows_of_set number width measures entries one.1 (set_number sets one.0)) (enumerate_from 0 sets))
    else ended (Some (fault_at number faults.TooManyRows))

unfoldable pub grouping_sets : ℕ → List Formula → List (List ℕ) → List AnyMeasure → Stream Row → Stream Row
grouping_sets number groups sets measures input =
    from_all (rows_of_sets number (length groups) sets measures) (each_row number (entry_of groups (map (λ one. one.measure) measures)) input)
