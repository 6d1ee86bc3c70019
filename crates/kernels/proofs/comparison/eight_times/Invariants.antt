use Rattle.std.proofs.Common.{◌≡◌, replicate}
use Rattle.kernels.proofs.comparison.eight_times.Given as goal

abbrev pub invariant-loop-filled : goal.invariant-loop-filled
invariant-loop-filled g l = l.values.items ≡ replicate l._filled l.value
