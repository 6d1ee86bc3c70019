use Rattle.std.proofs.Common.{◌≡◌, ◌*◌, count_by}
use Rattle.std.specs.List.{range_with_len}
use Rattle.sub_types.specs.Bits.{bit_of}
use Rattle.sub_types.proofs.bits.count_bits.Given as goal

abbrev pub invariant-loop-i : goal.invariant-loop-i
invariant-loop-i l = l.count ≡ count_by (bit_of l.bytes) (range_with_len 0 (8 * l.i))
