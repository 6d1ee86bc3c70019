use Rattle.std.proofs.Common.{◌≡◌, length, map, take}
use Rattle.std.specs.Int.{w64, cast_signed}
use Rattle.std.specs.Vec.{vec_capacity}
use Rattle.byteorder.specs.Endian.{little_number}
use Rattle.col_fixed.proofs.native.I64Native.read_all.Given as goal

abbrev pub invariant-loop-chunk : goal.invariant-loop-chunk
invariant-loop-chunk l = record {
  values : l.values.items ≡ map (λ bytes. cast_signed w64 (little_number 8 bytes)) (take l.chunk-index l.chunks);
  room : vec_capacity l.values ≡ length l.chunks;
}
