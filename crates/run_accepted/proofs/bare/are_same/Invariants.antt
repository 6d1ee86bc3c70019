-- The first so many are the same.
use Rattle.std.proofs.Common.{◌≡◌, take}
use Rattle.run_accepted.proofs.bare.are_same.Given as goal

abbrev pub invariant-loop-i : goal.invariant-loop-i
invariant-loop-i l = take l.i l.types ≡ take l.i l.others
