use Rattle.std.proofs.Common.{◌≡◌, ◌+◌, take, length}
use Rattle.std.specs.List.{sum_by}
use Rattle.run_accepted.proofs.write.are_short.Given as goal

-- what is left beside the bytes so far
abbrev pub invariant-loop-name : goal.invariant-loop-name
invariant-loop-name l = sum_by length (take l.name-index l.names) + l.left ≡ 16777216
