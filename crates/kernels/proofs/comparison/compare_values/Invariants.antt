use Rattle.std.proofs.Common.{◌≡◌}
use lib.Lanes.{zip2}
use Rattle.kernels.specs.Numbers.{holds}
use Rattle.kernels.proofs.CompareLaws.{bytes_of}
use Rattle.kernels.proofs.comparison.compare_values.Given as goal

abbrev pub invariant-loop-i : goal.invariant-loop-i
invariant-loop-i g l = l.bytes.items ≡ bytes_of (zip2 (holds g.T.Native.number l.op) l.a l.b) l.i
