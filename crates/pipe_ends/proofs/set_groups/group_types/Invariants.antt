use Rattle.std.proofs.Common.{◌≡◌, map, take}
use Rattle.std.specs.List.{enumerate_from}
use Rattle.well_typed.specs.Columns as spec
use Rattle.pipe_ends.proofs.set_groups.group_types.Given as goal

-- the columns of the first so many
abbrev pub invariant-loop-place : goal.invariant-loop-place
invariant-loop-place l = l.given.items ≡ map (spec.group_type l.sets) (take l.place (enumerate_from 0 l.groups))
