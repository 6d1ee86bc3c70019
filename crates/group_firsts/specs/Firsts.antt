-- The values that a measure takes of each group, each at its first appearance.
use Rattle.std.specs.Prelude.{◌≡◌, ◌<◌, ◌==◌, ℕ, List, [], ◌∷◌, ◌++◌, Option, Some, None, map, length, slice_index_or, if◌then◌else◌}
use Rattle.std.specs.List.{All}
use Rattle.sub_types.specs.declared.value.Value.{Value}
use Rattle.sub_types.specs.declared.value.Value.TheVariants as values
use Rattle.plan_denote.specs.Computed.{Row}
use Rattle.plan_denote.specs.Order.{is_same}
use Rattle.plan_denote.specs.Distinct.{distinct, is_same_row}
use Rattle.plan_denote.specs.Aggregate.{Entry, members_in}
use Rattle.plan_denote.specs.Tally.{Tally, not_null, tally_of}
use Rattle.group_tallies.specs.declared.tallies.Keeping.{Keeping}
use Rattle.group_tallies.specs.Kept.{kept}
use Rattle.group_numbers.specs.Keys.{IsKept, AreAt}
use Rattle.group_firsts.specs.declared.firsts.Firsts.{Firsts}

-- what is taken of a row, null where that is nothing
abbrev pub or_null : Option Value → Value
or_null None = values.Null
or_null (Some value) = value

-- what the measure at a place takes of a row, and the row's key
abbrev pub pair_at : ℕ → Entry → Row
pair_at place entry = or_null (slice_index_or entry.1 place None) ∷ entry.0

-- the value and the key of such a pair
abbrev pub first_in : Row → Value
first_in [] = values.Null
first_in (value ∷ key) = value

abbrev pub key_in : Row → Row
key_in [] = []
key_in (value ∷ key) = key

-- the pairs of rows, each once, and for each the number of its key among these
pub record AreFirsts (keys : List Row) (entries : List Entry) (place : ℕ) (firsts : Firsts) : Type 0 where
  pub kept : IsKept firsts.pairs
  pub pairs : firsts.pairs.rows ≡ distinct is_same_row (map (pair_at place) entries)
  pub owned : AreAt keys firsts.groups.items (map key_in firsts.pairs.rows)

-- the groups of pairs, with those of the pairs that are new, of pairs that have these places
abbrev pub with_new : List ℕ → List ℕ → List ℕ → List ℕ
with_new groups (place ∷ places) (number ∷ numbers) = with_new (if place == length groups then groups ++ number ∷ [] else groups) places numbers
with_new groups _ _ = groups

-- the numbers at places
abbrev pub numbers_at : List ℕ → List ℕ → List ℕ
numbers_at numbers places = map (λ place. slice_index_or numbers place 0) places

-- each pair has one of so many groups
pub record AreWithin (groups : ℕ) (firsts : Firsts) : Type 0 where
  pub kept : IsKept firsts.pairs
  pub sized : length firsts.groups.items ≡ length firsts.pairs.rows
  pub within : All (λ group. group < groups) firsts.groups.items

-- what is kept of the distinct values that the measure at a place takes of a key's rows
abbrev pub kept_once : Keeping → List Entry → ℕ → Row → Tally
kept_once keeping entries place key = kept keeping (tally_of (not_null (distinct is_same (members_in entries key place))))
