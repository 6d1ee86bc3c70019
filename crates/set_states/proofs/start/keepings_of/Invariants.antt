use Rattle.std.proofs.Common.{◌≡◌, map, take}
use Rattle.set_states.specs.States.{keeping}
use Rattle.set_states.proofs.start.keepings_of.Given as goal

-- the measures so far
abbrev pub invariant-loop-one : goal.invariant-loop-one
invariant-loop-one l = l.keepings.items ≡ map keeping (take l.one-index l.measures)
