-- What is known of the groups of rows: their keys, and what is kept of each for each measure.
use Rattle.std.specs.Prelude.{◌≡◌, ◌≤◌, ℕ, suc, List, [], ◌∷◌, Bool, map, length, if◌then◌else◌}
use Rattle.std.specs.List.{All}
use Rattle.batch.specs.declared.batch.Batch.{Batch}
use Rattle.plan_denote.specs.Computed.{Row}
use Rattle.plan_denote.specs.Aggregate.{Entry}
use Rattle.plan_denote.specs.Tally.{Tally}
use Rattle.group_tallies.specs.declared.tallies.Keeping.{Keeping}
use Rattle.group_tallies.specs.declared.tallies.Tallies.{Tallies}
use Rattle.group_tallies.specs.Kept.{none, tallies_in, keeping_in}
use Rattle.group_numbers.specs.Keys.{IsKept, keys_at}
use Rattle.group_columns.specs.declared.taken.Taken.{Taken}
use Rattle.group_columns.specs.Columns.{padded, with_members, with_tallies, count_in, members_of, kept_at, keys_of, members_at, Covers}
use Rattle.group_states.specs.declared.groups.Groups.{Groups}

-- a measure's tallies, and what they keep
pub record Kept : Type 0 where
  pub keeping : Keeping
  pub tallies : List Tally

abbrev pub kept_in : Tallies → Kept
kept_in tallies = record { keeping = keeping_in tallies; tallies = tallies_in tallies }

-- of no rows: without grouping expressions there is one group, and else there is none
abbrev pub keys_before : Bool → List Row
keys_before is_grouped = if is_grouped then [] else [] ∷ []

abbrev pub kept_before : Bool → Keeping → Kept
kept_before is_grouped keeping = record { keeping = keeping; tallies = if is_grouped then [] else none ∷ [] }

-- rows and groups more
abbrev pub with_rows : ℕ → List ℕ → ℕ → Kept → Taken → Kept
with_rows groups numbers rows kept taken = record { keeping = kept.keeping; tallies = with_members kept.keeping (padded groups kept.tallies) numbers (members_of rows taken) }

abbrev pub with_groups : ℕ → List ℕ → Kept → Kept → Kept
with_groups groups numbers kept later = record { keeping = kept.keeping; tallies = with_tallies (padded groups kept.tallies) numbers later.tallies }

-- each measure keeps something of each group
pub record IsSound (g : Groups) : Type 0 where
  pub kept : IsKept g.keys
  pub sized : All (λ tallies. length (tallies_in tallies) ≡ length g.keys.rows) g.columns.items
  pub counted : All (λ tallies. count_in (tallies_in tallies) ≤ g.rows) g.columns.items

-- what is kept for measures, from the one at a place on, of the groups of these keys
abbrev pub columns_kept : ℕ → List Keeping → List Entry → List Row → List Kept
columns_kept place [] entries keys = []
columns_kept place (keeping ∷ keepings) entries keys = record { keeping = keeping; tallies = map (kept_at keeping entries place) keys } ∷ columns_kept (suc place) keepings entries keys

-- all that is known of these rows
pub record Knows (keepings : List Keeping) (entries : List Entry) (g : Groups) : Type 0 where
  pub rows : g.rows ≡ length entries
  pub covers : Covers g.keys.rows entries
  pub columns : map kept_in g.columns.items ≡ columns_kept 0 keepings entries g.keys.rows

-- what the measures take of a batch's rows, from the measure at a place on
abbrev pub AreTaken : ℕ → ℕ → List Taken → List Entry → Type 0
AreTaken rows place [] entries = Unit {0}
AreTaken rows place (taken ∷ rest) entries = (members_of rows taken ≡ members_at place entries) × AreTaken rows (suc place) rest entries

-- the rows of a batch, by their keys and by what the measures take
pub record AreEntries (columns : List ℕ) (batch : Batch) (taken : List Taken) (entries : List Entry) : Type 0 where
  pub keys : keys_of entries ≡ keys_at columns batch
  pub takes : AreTaken batch.rows 0 taken entries
