-- What sets of groups take of a batch's rows: the columns of their keys, and those of the values that are kept once.
use Rattle.std.specs.Prelude.{◌≡◌, ◌+◌, ◌≤◌, ℕ, suc, List, [], ◌∷◌, Bool, true, map, length, replicate, ◌==◌, if◌then◌else◌}
use Rattle.std.specs.List.{All, list_any, range_with_len}
use Rattle.sub_types.specs.declared.value.Value.{Value}
use Rattle.sub_types.specs.declared.value.Value.TheVariants as values
use Rattle.plan_typed.specs.declared.rel.SetMeasure.{SetMeasure}
use Rattle.plan_denote.specs.Aggregate.{Entry}
use Rattle.batch.specs.declared.batch.Batch.{Batch}
use Rattle.batch.specs.BatchRows.{column_of}
use Rattle.group_numbers.specs.Keys.{keys_at}
use Rattle.group_columns.specs.declared.taken.Taken.{Taken}
use Rattle.group_columns.specs.Columns.{IsWhole, keys_of, members_at, members_of}
use Rattle.group_states.specs.States.{AreTaken}
use Rattle.group_firsts.specs.Firsts.{or_null}
use Rattle.set_inputs.specs.declared.inputs.SetInputs.{SetInputs}

-- the columns of a set's keys: those of its groups, and the one of nulls, which has this place, for those that it lacks
abbrev pub column_over : ℕ → List ℕ → ℕ → ℕ
column_over nulls set place = if list_any (λ one. one == place) set then place else nulls

abbrev pub columns_over : ℕ → ℕ → List ℕ → List ℕ
columns_over nulls width set = map (column_over nulls set) (range_with_len 0 width)

-- what a measure over distinct values takes of each of so many rows, null where that is nothing; of any other measure, nulls
abbrev pub values_once : ℕ → Bool → Taken → List Value
values_once rows is_distinct taken = if is_distinct then map or_null (members_of rows taken) else replicate rows values.Null

-- the values of the measures from a place on, whose columns begin with this one
abbrev pub AreValues : ℕ → ℕ → List SetMeasure → Batch → List Entry → Type 0
AreValues column place [] batch later = Unit {0}
AreValues column place (measure ∷ measures) batch later =
    (measure.distinct ≡ true → column_of column batch ≡ map or_null (members_at place later)) × AreValues (suc column) (suc place) measures batch later

-- rows by the columns of their keys, of which there are so many, one of nulls and one for each measure, and by what the measures take
pub record AreInputs (width : ℕ) (measures : List SetMeasure) (later : List Entry) (inputs : SetInputs) : Type 0 where
  pub keys : keys_of later ≡ keys_at (range_with_len 0 width) inputs.batch
  pub few : width ≤ inputs.nulls
  pub nulls : column_of inputs.nulls inputs.batch ≡ replicate inputs.batch.rows values.Null
  pub values : AreValues (suc inputs.nulls) 0 measures inputs.batch later
  pub takes : AreTaken inputs.batch.rows 0 inputs.taken.items later
  pub wide : length inputs.batch.columns.items ≡ suc inputs.nulls + length measures
  pub all : length inputs.taken.items ≡ length measures
  pub whole : All (IsWhole inputs.batch.rows) inputs.taken.items
