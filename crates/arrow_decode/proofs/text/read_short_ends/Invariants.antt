use Rattle.std.proofs.Common.{◌≡◌, ◌+◌, ◌-◌, ◌%◌, ◌^◌, length, map, take}
use Rattle.std.specs.Vec.{vec_capacity}
use Rattle.byteorder.specs.Endian.{little_number}
use Rattle.arrow_decode.proofs.text.read_short_ends.Given as goal

-- the ends so far, and room for all
abbrev pub invariant-loop-chunk : goal.invariant-loop-chunk
invariant-loop-chunk l = record {
  ends : l.ends.items ≡ map (λ chunk. (little_number 4 chunk + (2 ^ 32 - l.begin)) % 2 ^ 32) (take l.chunk-index l.chunks);
  room : vec_capacity l.ends ≡ length l.chunks;
}
