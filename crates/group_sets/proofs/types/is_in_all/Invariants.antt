use Rattle.std.proofs.Common.{◌≡◌, true, map, take, Vec, ℕ, Global}
use Rattle.std.specs.List.{list_all}
use Rattle.well_typed.specs.Columns as spec
use Rattle.group_sets.proofs.types.is_in_all.Given as goal

-- the sets so far have the group
abbrev pub invariant-loop-set : goal.invariant-loop-set
invariant-loop-set l = list_all (spec.has_place l.place) (take l.set-index (map (λ (set : Vec ℕ Global). set.items) l.sets)) ≡ true
