use Rattle.std.proofs.Common.{◌≡◌, take}
use Rattle.std.specs.Int.{w8, cast_unsigned}
use Rattle.std.specs.List.{flat_map}
use Rattle.byteorder.specs.Endian.{little_bytes}
use Rattle.col_fixed.proofs.native.I8Native.write_all.Given as goal

abbrev pub invariant-values : goal.invariant-values
invariant-values l = take l.i l.into ≡ flat_map (λ z. little_bytes 1 (cast_unsigned w8 z)) (take l.i l.values)
