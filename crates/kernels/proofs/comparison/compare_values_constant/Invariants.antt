use Rattle.std.proofs.Common.{◌≡◌, map}
use Rattle.kernels.specs.Numbers.{holds}
use Rattle.kernels.proofs.CompareLaws.{bytes_of}
use Rattle.kernels.proofs.comparison.compare_values_constant.Given as goal

abbrev pub invariant-loop-i : goal.invariant-loop-i
invariant-loop-i g l = l.bytes.items ≡ bytes_of (map (λ value. holds g.T.Native.number l.op value l.fn.constant) l.a) l.i
