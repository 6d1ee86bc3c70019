use Rattle.std.proofs.Common.{◌≡◌, map, take}
use Rattle.pipe_ends.proofs.set_groups.sets_in.Given as goal

-- the first so many
abbrev pub invariant-loop-set : goal.invariant-loop-set
invariant-loop-set l = l.copies.items ≡ map (λ set. set.items) (take l.set-index l.sets)
