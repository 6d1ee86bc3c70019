use Rattle.std.proofs.Common.{◌≡◌, map, take}
use Rattle.rel_parts.proofs.groupings.each_set.Given as goal

abbrev pub invariant-loop-set : goal.invariant-loop-set
invariant-loop-set l = map (λ set. set.items) l.copies.items ≡ take l.set-index l.sets
