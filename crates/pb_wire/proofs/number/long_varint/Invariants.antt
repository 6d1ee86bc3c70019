use Rattle.pb_wire.proofs.VarintLaws.{IsPartRead}
use Rattle.pb_wire.proofs.number.long_varint.Given as goal

abbrev pub invariant-loop-i : goal.invariant-loop-i
invariant-loop-i l = IsPartRead l.bytes l.i l.value l.scale
