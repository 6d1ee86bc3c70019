use Rattle.std.proofs.Common.{◌≡◌, length, map, take}
use Rattle.std.specs.Int.{w128, cast_signed}
use Rattle.std.specs.Vec.{vec_capacity}
use Rattle.byteorder.specs.Endian.{little_number}
use Rattle.col_fixed.proofs.native.I128Native.read_all.Given as goal

abbrev pub invariant-loop-chunk : goal.invariant-loop-chunk
invariant-loop-chunk l = record {
  values : l.values.items ≡ map (λ bytes. cast_signed w128 (little_number 16 bytes)) (take l.chunk-index l.chunks);
  room : vec_capacity l.values ≡ length l.chunks;
}
