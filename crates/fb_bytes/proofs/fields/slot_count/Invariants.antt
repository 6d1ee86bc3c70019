use Rattle.std.proofs.Common.{◌≡◌, max, drop}
use Rattle.fb_bytes.specs.Layout.{slot_count}
use Rattle.fb_bytes.specs.Object.{parts_of}
use Rattle.fb_bytes.proofs.fields.slot_count.Given as goal

abbrev pub invariant-loop-field : goal.invariant-loop-field
invariant-loop-field l = max l.count (slot_count (parts_of (drop l.field-index l.fields))) ≡ slot_count (parts_of l.fields)
