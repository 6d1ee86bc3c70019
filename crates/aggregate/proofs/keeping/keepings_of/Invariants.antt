use Rattle.std.proofs.Common.{◌≡◌, map, take}
use Rattle.aggregate.specs.States.{keeping}
use Rattle.aggregate.proofs.keeping.keepings_of.Given as goal

-- the measures so far
abbrev pub invariant-loop-measure : goal.invariant-loop-measure
invariant-loop-measure l = l.keepings.items ≡ map keeping (take l.measure-index l.measures)
