use Rattle.sub_types.specs.Bits.{bit_of}
use Rattle.kernels.proofs.PlaceLaws.{Finds}
use Rattle.kernels.proofs.places.select.Given as goal

abbrev pub invariant-loop-i : goal.invariant-loop-i
invariant-loop-i l = Finds (bit_of l.bytes) l.rows.items l.len l.count l.i
