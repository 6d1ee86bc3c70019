use Rattle.std.proofs.Common.{◌≡◌, ◌++◌, map, take}
use Rattle.plan_typed.specs.Types.{ty_of}
use Rattle.pipe_ends.proofs.types.add_groups.Given as goal

-- the types of the first so many
abbrev pub invariant-loop-group : goal.invariant-loop-group
invariant-loop-group l = l.given.items ≡ l.initial.given.items ++ map ty_of (take l.group-index l.groups)
