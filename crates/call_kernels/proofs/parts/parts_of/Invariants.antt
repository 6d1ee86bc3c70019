-- The parts so far.
use Rattle.std.proofs.Common.{◌≡◌, map, take, drop, option_map}
use Rattle.call_kernels.proofs.parts.parts_of.Given as goal

abbrev pub invariant-loop-i : goal.invariant-loop-i
invariant-loop-i l = l.parts ≡ map (option_map (λ text. take l.most (drop l.before text))) (take l.i l.all)
