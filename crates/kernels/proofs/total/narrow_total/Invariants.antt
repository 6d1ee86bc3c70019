use Rattle.std.proofs.Common.{take}
use Rattle.kernels.specs.Total.{total}
use Rattle.kernels.proofs.TotalLaws.{IsShort}
use Rattle.kernels.proofs.total.narrow_total.Given as goal

abbrev pub invariant-loop-i : goal.invariant-loop-i
invariant-loop-i g l = IsShort (total g.T.Native.number (take l.i l.values)) l.i l.total
