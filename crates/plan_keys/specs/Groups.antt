-- The places of groups.
use Rattle.std.specs.Prelude.{◌≡◌, List, [], ◌∷◌, ◌++◌, Some, None, length, position}
use Rattle.plan_verdict.specs.declared.groups.Group.{Group}
use Rattle.plan_verdict.specs.Aggregates.{is_same_group}
use Rattle.plan_keys.specs.declared.group_place.GroupPlace.{GroupPlace}
use Rattle.plan_keys.specs.declared.group_place.GroupPlace.TheVariants.{Found, New}

-- a group's place, and the groups before and after: it is that of the first equal group, or no group is equal and it was put behind all others
abbrev pub IsPlaced : List Group → List Group → Group → GroupPlace → Type 0
IsPlaced before after group (Found place) = (position (is_same_group group) before ≡ Some place) × (after ≡ before)
IsPlaced before after group (New place) = (position (is_same_group group) before ≡ None) × (place ≡ length before) × (after ≡ before ++ group ∷ [])
