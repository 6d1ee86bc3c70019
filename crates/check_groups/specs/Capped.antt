-- The checks of aggregates as they are done: once there are more groups than an aggregate may have columns, the groups are let go,
-- and what is still to come is checked for its own refusals alone.
use Rattle.std.specs.Prelude.{ℕ, List, [], ◌∷◌, Option, Some, None, map, length, nat_le, if◌then◌else◌}
use Rattle.std.specs.Option.{option_map}
use Rattle.plan_leaves.specs.declared.common.RelCommon.{RelCommon}
use Rattle.plan_typed.specs.declared.rel.Rel.{Rel}
use Rattle.plan_typed.specs.declared.rel.SetMeasure.{SetMeasure}
use Rattle.plan_typed.specs.Types.{columns_of}
use Rattle.plan_verdict.specs.declared.groups.Group.{Group}
use Rattle.plan_verdict.specs.declared.groups.Groups.{Groups}
use Rattle.plan_verdict.specs.declared.rule.Rule.TheVariants as rules
use Rattle.plan_verdict.specs.Aggregates.{group_in, written_out, referred}
use Rattle.plan_verdict.specs.Checking.{Checking, ◌>>=◌, accept, refuse, in_order}
use Rattle.plan_verdict.specs.Columns.{MAX_COLUMNS}
use Rattle.plan_verdict.specs.Meaning.{Scope, Expression, Sets}
use Rattle.plan_verdict.specs.Rels.{over}
use Rattle.check_groups.specs.Over.{aggregate_with}

-- the groups, unless there are too many
abbrev pub few_groups : List Group → Option (List Group)
few_groups groups = if nat_le (length groups) MAX_COLUMNS then Some groups else None

-- the groups with a grouping expression, and its place; where there are too many, any place
abbrev pub capped_group_in : Scope → Option (List Group) → Expression → Checking (Option (List Group) × ℕ)
capped_group_in scope (Some groups) written = do
  (more, place) ← group_in scope groups written
  accept (few_groups more, place)
capped_group_in scope None written = do
  expr ← written.check scope
  accept (None, 0)

-- the groups with those of a grouping, and their places
abbrev pub capped_set_in : Scope → Option (List Group) → List Expression → Checking (Option (List Group) × List ℕ)
capped_set_in scope groups [] = accept (groups, [])
capped_set_in scope groups (first ∷ rest) = do
  (more, place) ← capped_group_in scope groups first
  (all, places) ← capped_set_in scope more rest
  accept (all, place ∷ places)

-- the groups of several groupings, equal ones once, and the places of each grouping's
abbrev pub capped_sets_in : Scope → Option (List Group) → List Sets → Checking (Option (List Group) × List (List ℕ))
capped_sets_in scope groups [] = accept (groups, [])
capped_sets_in scope groups (first ∷ rest) = do
  (more, set) ← capped_set_in scope groups first.expressions
  (all, sets) ← capped_sets_in scope more rest
  accept (all, set ∷ sets)

-- the expressions of groups, with these sets
abbrev pub groups_with : List (List ℕ) → List Group → Groups
groups_with sets groups = record { groups = map (λ (group : Group). group.expr) groups; sets = sets }

-- several groupings with expressions of their own, unless there are too many groups
abbrev pub capped_several : Scope → List Sets → Checking (Option Groups)
capped_several scope groupings = do
  (groups, sets) ← capped_sets_in scope (Some []) groupings
  accept (option_map (groups_with sets) groups)

-- groups that are kept, however many they are
abbrev pub kept : Checking Groups → Checking (Option Groups)
kept check = do
  found ← check
  accept (Some found)

-- groupings with expressions of their own
abbrev pub capped_written_out : Scope → List Sets → Checking (Option Groups)
capped_written_out scope [] = kept (written_out scope [])
capped_written_out scope (one ∷ []) = kept (written_out scope (one ∷ []))
capped_written_out scope groupings = capped_several scope groupings

-- the groups and sets, unless there are too many groups
abbrev pub capped_groups_in : Scope → List Expression → List Sets → Checking (Option Groups)
capped_groups_in scope [] groupings = capped_written_out scope groupings
capped_groups_in scope expressions groupings = kept (referred scope expressions groupings)

-- the measures, and then there are too many groups
abbrev pub too_many : ℕ → Rel → List (Scope → Checking SetMeasure) → Checking Rel
too_many number rel measures = do
  checked ← in_order (map (λ one. one (over number (columns_of rel))) measures)
  refuse number rules.TooMany

-- the measures, with these groups, unless there are too many
abbrev pub capped_with : ℕ → Option RelCommon → Rel → Option Groups → List (Scope → Checking SetMeasure) → Checking Rel
capped_with number common rel (Some found) measures = aggregate_with number common rel found measures
capped_with number common rel None measures = too_many number rel measures

-- the groupings and the measures of an aggregate over this input
abbrev pub capped_over : ℕ → Option RelCommon → Rel → List Sets → List (Scope → Checking SetMeasure) → List Expression → Checking Rel
capped_over number common rel groupings measures expressions = do
  found ← capped_groups_in (over number (columns_of rel)) expressions groupings
  capped_with number common rel found measures
