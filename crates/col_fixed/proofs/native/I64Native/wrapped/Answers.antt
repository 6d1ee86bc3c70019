use Rattle.std.specs.Int.{w64}
use Rattle.col_fixed.proofs.LaneLaws.{left_in}
use Rattle.col_fixed.proofs.native.I64Native.wrapped.Goals as goal

pub returns : goal.returns
returns c =
    left_in w64 c.args.n c.rem_euclid.result c.cast_signed.result c.ranges.n (record { sfits = c.rem_euclid.type_inv }) (record { sfits = c.cast_signed.type_inv }) c.rem_euclid.ensures.value c.cast_signed.ensures
