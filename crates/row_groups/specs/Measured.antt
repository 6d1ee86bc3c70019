-- Measures in memory, and what they make of the values they take of a group.
use Rattle.std.specs.Prelude.{ℕ, List, false, map, slice_index_or, ◌==◌, if◌then◌else◌}
use Rattle.std.specs.List.{enumerate_from, list_any}
use Rattle.sub_types.specs.declared.value.Value.{Value}
use Rattle.sub_types.specs.declared.value.Value.TheVariants as values
use Rattle.plan_typed.specs.declared.rel.TypedMeasure.{TypedMeasure}
use Rattle.plan_denote.specs.Rows.{Row, Computed}
use Rattle.plan_denote.specs.Denote.{measure_of}
use Rattle.plan_denote.specs.Aggregate.{Entry, Tally, members_in, not_null, tally_of, final}
use Rattle.plan_denote.specs.GroupSets.{AnyMeasure, once}

-- a measure over all values
abbrev pub plain : TypedMeasure → AnyMeasure
plain measure = record { measure = measure_of measure; distinct = false }

abbrev pub final_in : AnyMeasure → List Value → Computed
final_in one members = final one.measure.func one.measure.kind (tally_of (not_null (once one.distinct members)))

-- the tallies of the group of a key, of measures that begin at this place
abbrev pub tallies_from : List Entry → Row → ℕ → List AnyMeasure → List Tally
tallies_from entries key place measures = map (λ one. tally_of (not_null (once one.1.distinct (members_in entries key one.0)))) (enumerate_from place measures)

-- the value at a place of a row's key in a set of groups
abbrev pub key_value : List ℕ → Row → ℕ → Value
key_value set key place = if list_any (λ one. one == place) set then slice_index_or key place values.Null else values.Null
