use Rattle.std.proofs.Common.{◌≡◌, take}
use Rattle.kernels.specs.Total as totals
use Rattle.kernels.proofs.total.total.Given as goal

abbrev pub invariant-loop-i : goal.invariant-loop-i
invariant-loop-i g l = l.total ≡ totals.total g.T.Native.number (take l.i l.values)
