use Rattle.std.proofs.Common.{◌≡◌, replicate}
use Rattle.std.specs.Vec.{vec_capacity}
use Rattle.col_fixed.proofs.fixed.repeated.Given as goal

abbrev pub invariant-loop-i : goal.invariant-loop-i
invariant-loop-i g l = record {
  same : l.values.items ≡ replicate l._i l.value;
  room : vec_capacity l.values ≡ l.n;
}
