use Rattle.std.proofs.Common.{◌≡◌, take}
use Rattle.arrow_read.proofs.copies.schema_copy.Given as goal

abbrev pub invariant-loop-field : goal.invariant-loop-field
invariant-loop-field l = l.columns.items ≡ take l.field-index l.field-items
