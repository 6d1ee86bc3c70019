use Rattle.std.proofs.Common.{◌≡◌, take}
use Rattle.group_firsts.specs.Firsts.{numbers_at}
use Rattle.group_firsts.proofs.firsts.numbers_at.Given as goal

-- the numbers so far
abbrev pub invariant-loop-place : goal.invariant-loop-place
invariant-loop-place l = l.found.items ≡ numbers_at l.numbers (take l.place-index l.places)
