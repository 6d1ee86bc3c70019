use Rattle.std.proofs.Common.{◌≡◌, ◌++◌, take, drop}
use Rattle.pipe_ends.specs.Given.{up_to_fault}
use Rattle.pipe_ends.proofs.ends.count_to_fault.Given as goal

-- those so far, and of what is left those up to its first fault
abbrev pub invariant-loop-place : goal.invariant-loop-place
invariant-loop-place l = take l.place l.pieces ++ up_to_fault (drop l.place l.pieces) ≡ up_to_fault l.fn.pieces
