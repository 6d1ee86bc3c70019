use Rattle.std.proofs.Common.{◌≡◌, map, take, Vec, ℕ, Global}
use Rattle.std.specs.List.{enumerate_from}
use Rattle.well_typed.specs.Columns as spec
use Rattle.group_sets.proofs.types.group_types.Given as goal

-- the columns of the first so many
abbrev pub invariant-loop-place : goal.invariant-loop-place
invariant-loop-place l = l.types.items ≡ map (spec.group_type (map (λ (set : Vec ℕ Global). set.items) l.sets)) (take l.place (enumerate_from 0 l.groups))
