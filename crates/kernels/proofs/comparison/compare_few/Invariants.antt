use Rattle.std.proofs.Common.{◌≡◌, take}
use lib.Lanes.{zip2, mask_l}
use Rattle.kernels.specs.Numbers.{holds}
use Rattle.kernels.proofs.comparison.compare_few.Given as goal

abbrev pub invariant-loop-i : goal.invariant-loop-i
invariant-loop-i g l = l.mask ≡ mask_l (zip2 (holds g.T.Native.number l.op) (take l.i l.a) (take l.i l.b))
