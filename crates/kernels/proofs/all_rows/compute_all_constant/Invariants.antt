use Rattle.std.proofs.Common.{◌≡◌, ◌++◌, ◌-◌, length, replicate}
use Rattle.std.specs.Vec.{vec_capacity}
use Rattle.kernels.proofs.AllLaws.{KeepsResults}
use Rattle.kernels.proofs.all_rows.compute_all_constant.Given as goal

abbrev pub invariant-loop-i : goal.invariant-loop-i
invariant-loop-i g l = record {
  results : KeepsResults l.op g.T.Native.number g.T.Native.zero l.range.0 l.range.1 l.a (replicate (length l.a) l.fn.constant) (l.values.items ++ replicate (length l.a - l.i) g.T.Native.zero) l.i l.lost;
  long : length l.values.items ≡ l.i;
  room : vec_capacity l.values ≡ length l.a;
}
