use Rattle.std.proofs.Common.{◌≡◌, take}
use Rattle.arrow_decode.proofs.text.narrowed.Given as goal

-- the ends so far
abbrev pub invariant-loop-place : goal.invariant-loop-place
invariant-loop-place l = l.ends ≡ take l.place-index l.places
