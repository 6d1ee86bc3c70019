use Rattle.std.proofs.Common.{[]}
use Rattle.sub_types.specs.Slots.{slots}
use Rattle.arrow_write.proofs.TextEnds.{AreWritten}
use Rattle.arrow_write.proofs.values.offset_bytes.Given as goal

abbrev pub invariant-loop-i : goal.invariant-loop-i
invariant-loop-i l = AreWritten (slots [] l.column) l.bytes.items l.i
