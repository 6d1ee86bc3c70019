use Rattle.std.proofs.Common.{◌≡◌, map, take}
use Rattle.set_states.specs.States.{measure_in}
use Rattle.group_sets.proofs.measures.plain_measures.Given as goal

-- the measures so far
abbrev pub invariant-loop-one : goal.invariant-loop-one
invariant-loop-one l = l.plain.items ≡ map measure_in (take l.one-index l.measures)
