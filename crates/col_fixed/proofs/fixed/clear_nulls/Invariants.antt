use Rattle.std.proofs.Common.{◌*◌}
use Rattle.col_fixed.specs.Column.{IsClearedBelow}
use Rattle.col_fixed.proofs.fixed.clear_nulls.Given as goal

abbrev pub invariant-bytes : goal.invariant-bytes
invariant-bytes g l = IsClearedBelow g.T.Native.zero l.initial.values.items l.values.items l.valid (8 * l.place)
