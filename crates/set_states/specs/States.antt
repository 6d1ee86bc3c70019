-- What is known of the groups of several sets.
use Rattle.std.specs.List.{AllByRecursion}
use Rattle.std.specs.Prelude.{◌≡◌, ◌+◌, ◌<◌, ◌≤◌, ℕ, List, [], ◌∷◌, true, map, length, slice_index_or}
use Rattle.plan_typed.specs.declared.rel.SetMeasure.{SetMeasure}
use Rattle.plan_typed.specs.declared.rel.TypedMeasure.{TypedMeasure}
use Rattle.plan_denote.specs.Computed.{Row}
use Rattle.plan_denote.specs.Distinct.{distinct, is_same_row}
use Rattle.plan_denote.specs.Aggregate.{MAX_INPUT, Entry}
use Rattle.plan_denote.specs.GroupSets.{entry_in}
use Rattle.group_tallies.specs.declared.tallies.Keeping.{Keeping}
use Rattle.group_tallies.specs.Kept.{keeping_of, keeping_in}
use Rattle.group_columns.specs.Columns.{keys_of}
use Rattle.group_states.specs.States.{IsSound, Knows}
use Rattle.group_firsts.specs.declared.firsts.Firsts.{Firsts}
use Rattle.group_firsts.specs.Firsts.{AreFirsts, pair_at}
use Rattle.batch.specs.declared.batch.Batch.{Batch}
use Rattle.group_numbers.specs.Keys.{keys_at}
use Rattle.set_states.specs.declared.set.SetGroups.{SetGroups}
use Rattle.set_states.specs.declared.sets.Sets.{Sets}

-- a measure, as over all values
abbrev pub measure_in : SetMeasure → TypedMeasure
measure_in one = one.measure

-- what a measure keeps
abbrev pub keeping : SetMeasure → Keeping
keeping one = keeping_of one.measure.func

-- the values of each measure that is over distinct ones
pub record AreKept (measures : List SetMeasure) (keys : List Row) (entries : List Entry) (firsts : List Firsts) : Type 0 where
  pub many : length firsts ≡ length measures
  pub each : (i : ℕ) → i < length measures → (measure : SetMeasure) → measure ≡ slice_index_or measures i measure → measure.distinct ≡ true → (one : Firsts) → one ≡ slice_index_or firsts i one → AreFirsts keys entries i one

-- the groups of a set, of these rows
pub record IsKnown (measures : List SetMeasure) (set : List ℕ) (entries : List Entry) (one : SetGroups) : Type 0 where
  pub sound : IsSound one.groups
  pub kept : map keeping_in one.groups.columns.items ≡ map keeping measures
  pub keys : one.groups.keys.rows ≡ distinct is_same_row (keys_of (map (entry_in set) entries))
  pub knows : Knows (map keeping measures) (map (entry_in set) entries) one.groups
  pub firsts : AreKept measures one.groups.keys.rows (map (entry_in set) entries) one.firsts.items

-- those of all sets, of rows whose keys have so many values
pub record AreKnown (width : ℕ) (measures : List SetMeasure) (sets : List (List ℕ)) (entries : List Entry) (all : Sets) : Type 0 where
  pub rows : all.rows ≡ length entries
  pub few : length entries ≤ MAX_INPUT
  pub wide : AllByRecursion (λ (entry : Entry). length entry.0 ≡ width) entries
  pub many : length all.sets.items ≡ length sets
  pub each : (i : ℕ) → i < length sets → (one : SetGroups) → one ≡ slice_index_or all.sets.items i one → IsKnown measures (slice_index_or sets i []) entries one

-- no values of so many measures
pub record AreNone (measures : ℕ) (firsts : List Firsts) : Type 0 where
  pub many : length firsts ≡ measures
  pub each : (i : ℕ) → i < measures → (one : Firsts) → one ≡ slice_index_or firsts i one → (keys : List Row) (place : ℕ) → AreFirsts keys [] place one

-- what the measures over distinct values take of rows, with the rows' keys, by the columns of a batch, of which theirs begin with this
-- one
abbrev pub ArePairs : List SetMeasure → ℕ → List ℕ → Batch → List Entry → Type 0
ArePairs measures first columns batch later = (i : ℕ) → i < length measures → (measure : SetMeasure) → measure ≡ slice_index_or measures i measure → measure.distinct ≡ true → map (pair_at i) later ≡ keys_at ((first + i) ∷ columns) batch
