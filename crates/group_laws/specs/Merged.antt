-- The summary of some rows and of the rows behind them.
use Rattle.std.specs.Prelude.{ℕ, suc, ◌+◌, ◌+ℤ◌, List, [], ◌∷◌, ◌++◌, Bool, map, min, nat_le, if◌then◌else◌}
use Rattle.std.specs.declared.cmp.Ordering.{Ordering}
use Rattle.std.specs.Ordering.{is_lt, is_gt}
use Rattle.sub_types.specs.declared.value.Value.{Value}
use Rattle.sub_types.specs.declared.value.Value.TheVariants as values
use Rattle.plan_denote.specs.Rows.{Row}
use Rattle.plan_denote.specs.Distinct.{is_same_row, distinct}
use Rattle.plan_denote.specs.Tally.{Tally, better_of}
use Rattle.plan_denote.specs.Aggregate.{MAX_INPUT, Group, Summary, groups_if}

-- the better of the best values of two lists, each null where its list has none
abbrev pub best_between : (Ordering → Bool) → Value → Value → Value
best_between is_better values.Null other = other
best_between is_better value other = better_of is_better value other

-- counts and exact totals are added, and of two values the better one stays
abbrev pub tallies_merged : Tally → Tally → Tally
tallies_merged a b = record { count = a.count + b.count; total = a.total +ℤ b.total; least = best_between is_lt a.least b.least; greatest = best_between is_gt a.greatest b.greatest }

-- two lists put together place by place; an empty list adds nothing
abbrev pub merged_by : {K : Type 0} → (K → K → K) → List K → List K → List K
merged_by merge [] later = later
merged_by merge known [] = known
merged_by merge (item ∷ known) (other ∷ later) = merge item other ∷ merged_by merge known later

-- what is kept of the group of a key, and nothing where there is no such group
abbrev pub known_at : {G K : Type 0} → (G → Row) → (G → List K) → List G → Row → List K
known_at key_of known_of [] key = []
known_at key_of known_of (group ∷ groups) key = if is_same_row key (key_of group) then known_of group else known_at key_of known_of groups key

-- the keys of both, each at its first appearance
abbrev pub keys_merged : List Row → List Row → List Row
keys_merged keys later = distinct is_same_row (keys ++ later)

abbrev pub tallies_at : List Group → Row → List Tally
tallies_at = known_at (λ group. group.key) (λ group. group.tallies)

-- the groups of both: of a key that both have, what is kept is put together
abbrev pub groups_merged : List Group → List Group → List Group
groups_merged groups later = map (λ key. record { key = key; tallies = merged_by tallies_merged (tallies_at groups key) (tallies_at later key) }) (keys_merged (map (λ group. group.key) groups) (map (λ group. group.key) later))

-- how many rows both have, counted to one more than may be
abbrev pub rows_merged : ℕ → ℕ → ℕ
rows_merged rows later = min (rows + later) (suc MAX_INPUT)

-- the summary of both
abbrev pub merged : Summary → Summary → Summary
merged known later = record {
  rows = rows_merged known.rows later.rows;
  groups = groups_if (nat_le (known.rows + later.rows) MAX_INPUT) (groups_merged known.groups later.groups);
}
