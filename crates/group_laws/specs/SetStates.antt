-- What is kept for several sets of groups, and for measures of distinct values.
use Rattle.std.specs.Prelude.{ℕ, suc, ◌+◌, List, [], ◌++◌, Bool, true, false, Some, map, length, min, nat_le, if◌then◌else◌}
use Rattle.std.specs.List.{enumerate_from}
use Rattle.sub_types.specs.declared.fault.FaultKind.TheVariants as faults
use Rattle.sub_types.specs.declared.value.Value.{Value}
use Rattle.sub_types.specs.Stream.{Stream, rows_alone, ended, glue}
use Rattle.plan_denote.specs.Rows.{Row, fault_at, each_row}
use Rattle.plan_denote.specs.Order.{is_same}
use Rattle.plan_denote.specs.Distinct.{distinct}
use Rattle.plan_denote.specs.Join.{nulls}
use Rattle.plan_denote.specs.Tally.{Tally, not_null, tally_of}
use Rattle.plan_denote.specs.Aggregate.{MAX_INPUT, Entry, Group, keys_in, members_in}
use Rattle.plan_denote.specs.GroupSets.{AnyMeasure, entry_in, set_row, set_number}
use Rattle.group_laws.specs.Merged.{tallies_merged, merged_by, known_at, keys_merged, rows_merged}

-- what is kept of what a measure takes of a group: a tally, or each value at its first appearance
pub data Known : Type 0 where
  Tallied : Tally → Known
  Listed : List Value → Known

-- of a measure over all values, and of one over distinct values
abbrev pub known_of : Bool → List Value → Known
known_of false members = Tallied (tally_of (not_null members))
known_of true members = Listed (distinct is_same members)

-- the tally of what is kept
abbrev pub tally_in : Known → Tally
tally_in (Tallied tally) = tally
tally_in (Listed members) = tally_of (not_null members)

-- what is kept of some members and of the members behind them
abbrev pub knowns_merged : Known → Known → Known
knowns_merged (Tallied known) (Tallied later) = Tallied (tallies_merged known later)
knowns_merged (Listed known) (Listed later) = Listed (distinct is_same (known ++ later))
knowns_merged known _ = known

-- a group of a set by its key, and what is kept for each measure
pub record SetGroup : Type 0 where
  pub key : Row
  pub known : List Known

abbrev pub set_group : List AnyMeasure → List Entry → Row → SetGroup
set_group measures entries key = record { key = key; known = map (λ one. known_of one.1.distinct (members_in entries key one.0)) (enumerate_from 0 measures) }

-- the groups of a set
abbrev pub set_groups : ℕ → List AnyMeasure → List Entry → List ℕ → List SetGroup
set_groups width measures entries set = let own = map (entry_in set) entries in map (set_group measures own) (keys_in set (nulls width) own)

-- what is known of the rows: how many they are, counted to one more than may be, and the groups of each set where they aren't too many
pub record SetsSummary : Type 0 where
  pub rows : ℕ
  pub sets : List (List SetGroup)

unfoldable pub sets_summary : ℕ → List (List ℕ) → List AnyMeasure → List Entry → SetsSummary
sets_summary width sets measures entries = record {
  rows = min (length entries) (suc MAX_INPUT);
  sets = if nat_le (length entries) MAX_INPUT then map (set_groups width measures entries) sets else [];
}

abbrev pub kept_at : List SetGroup → Row → List Known
kept_at = known_at (λ group. group.key) (λ group. group.known)

-- the groups of a set in both: of a key that both have, what is kept is put together
abbrev pub set_groups_merged : List SetGroup → List SetGroup → List SetGroup
set_groups_merged groups later = map (λ key. record { key = key; known = merged_by knowns_merged (kept_at groups key) (kept_at later key) }) (keys_merged (map (λ group. group.key) groups) (map (λ group. group.key) later))

-- the summary of some rows and of the rows behind them
abbrev pub sets_merged : SetsSummary → SetsSummary → SetsSummary
sets_merged known later = record {
  rows = rows_merged known.rows later.rows;
  sets = if nat_le (known.rows + later.rows) MAX_INPUT then merged_by set_groups_merged known.sets later.sets else [];
}

-- a group whose measures are computed
abbrev pub tallied : SetGroup → Group
tallied group = record { key = group.key; tallies = map tally_in group.known }

-- the rows of set after set, up to the first fault
unfoldable pub rows_of_sets_summary : ℕ → List (List ℕ) → List AnyMeasure → SetsSummary → Stream Row
rows_of_sets_summary number sets measures known =
    if nat_le known.rows MAX_INPUT
    then glue (map (λ one. each_row number (λ group. set_row measures (set_number sets one.0) (tallied group)) (rows_alone one.1)) (enumerate_from 0 known.sets))
    else ended (Some (fault_at number faults.TooManyRows))
