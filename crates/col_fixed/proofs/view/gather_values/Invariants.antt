use Rattle.std.proofs.Common.{◌≡◌, take, length}
use Rattle.std.specs.Vec.{vec_capacity}
use Rattle.sub_types.specs.Rows.{picked}
use Rattle.col_fixed.proofs.view.gather_values.Given as goal

abbrev pub invariant-loop-i : goal.invariant-loop-i
invariant-loop-i g l = record {
  gathered : l.gathered.items ≡ picked g.T.Native.zero (take l.i-index l.at) l.values;
  room : vec_capacity l.gathered ≡ length l.at;
}
