use Rattle.std.proofs.Common.{◌≡◌, Some, slice_get, take}
use Rattle.arrow_write.proofs.CutLaws.{cut_at}
use Rattle.arrow_write.proofs.cut.column_of_parts.Given as goal

abbrev pub invariant-loop-part : goal.invariant-loop-part
invariant-loop-part l =
    (l.builder.values ≡ cut_at l.batches (take l.part-index l.parts) l.index) × (slice_get l.types l.index ≡ Some l.builder.ty)
