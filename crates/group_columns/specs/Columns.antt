-- What is kept of each group for a measure, and rows or groups more.
use Rattle.std.specs.Prelude.{◌≡◌, ℕ, zero, suc, ◌≤◌, List, [], ◌∷◌, true, false, Option, Some, None, map, length, replicate, slice_index_or, if◌then◌else◌}
use Rattle.std.specs.List.{list_any, sum_by}
use Rattle.sub_types.specs.declared.value.Value.{Value}
use Rattle.sub_types.specs.declared.value.Value.TheVariants as values
use Rattle.batch.specs.declared.column.Column.{Column}
use Rattle.batch.specs.Column.{column_values}
use Rattle.plan_denote.specs.Computed.{Row, is_true}
use Rattle.plan_denote.specs.Distinct.{is_same_row}
use Rattle.plan_denote.specs.Aggregate.{Entry, members_in}
use Rattle.plan_denote.specs.Tally.{Tally, not_null, tally_of}
use Rattle.group_laws.specs.Columns.{spread}
use Rattle.group_tallies.specs.declared.tallies.Keeping.{Keeping}
use Rattle.group_tallies.specs.Kept.{none, kept, with_tally, kept_of}
use Rattle.group_columns.specs.declared.taken.Taken.{Taken}

-- the tallies of so many groups: those that are new have none
abbrev pub padded : ℕ → List Tally → List Tally
padded zero tallies = tallies
padded (suc n) [] = none ∷ padded n []
padded (suc n) (tally ∷ tallies) = tally ∷ padded n tallies

-- what a measure takes of rows, each of which has a group by its number
abbrev pub with_members : Keeping → List Tally → List ℕ → List (Option Value) → List Tally
with_members keeping tallies (number ∷ numbers) (None ∷ members) = with_members keeping tallies numbers members
with_members keeping tallies (number ∷ numbers) (Some value ∷ members) = with_members keeping (with_tally tallies number (kept_of keeping value)) numbers members
with_members keeping tallies _ _ = tallies

-- the tallies of later groups, each of which has a group by its number
abbrev pub with_tallies : List Tally → List ℕ → List Tally → List Tally
with_tallies tallies (number ∷ numbers) (later ∷ rest) = with_tallies (with_tally tallies number later) numbers rest
with_tallies tallies _ _ = tallies

-- how many values all groups have together
abbrev pub count_in : List Tally → ℕ
count_in tallies = sum_by (λ tally. tally.count) tallies

-- the values of a column, and true for each of so many rows where there is none
abbrev pub values_or_true : ℕ → Option Column → List Value
values_or_true n None = replicate n (values.Bool true)
values_or_true n (Some column) = column_values column

abbrev pub tests_of : ℕ → Taken → List Value
tests_of n taken = values_or_true n taken.tests

abbrev pub values_of : ℕ → Taken → List Value
values_of n taken = values_or_true n taken.values

-- what a measure takes of each of so many rows
abbrev pub members_of : ℕ → Taken → List (Option Value)
members_of n taken = spread (tests_of n taken) (values_of n taken)

-- how many of the values are true
abbrev pub trues_in : List Value → ℕ
trues_in [] = 0
trues_in (test ∷ tests) = if is_true test then suc (trues_in tests) else trues_in tests

-- there is a test for each of so many rows, and a value for each row whose test is true
pub record IsWhole (n : ℕ) (taken : Taken) : Type 0 where
  pub tests : length (tests_of n taken) ≡ n
  pub values : trues_in (tests_of n taken) ≤ length (values_of n taken)

-- what is kept of the group of a key
abbrev pub kept_at : Keeping → List Entry → ℕ → Row → Tally
kept_at keeping entries place key = kept keeping (tally_of (not_null (members_in entries key place)))

-- the keys of rows, and what the measure at a place takes of each
abbrev pub keys_of : List Entry → List Row
keys_of entries = map (λ entry. entry.0) entries

abbrev pub members_at : ℕ → List Entry → List (Option Value)
members_at place entries = map (λ entry. slice_index_or entry.1 place None) entries

-- no row has a key that isn't among these
abbrev pub Covers : List Row → List Entry → Type 0
Covers keys entries = (key : Row) → list_any (is_same_row key) keys ≡ false → list_any (is_same_row key) (keys_of entries) ≡ false
