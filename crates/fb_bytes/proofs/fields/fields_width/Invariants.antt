use Rattle.std.proofs.Common.{◌≡◌, ◌+◌, ◌*◌, ◌≤◌, drop}
use Rattle.fb_bytes.specs.Layout.{fields_width}
use Rattle.fb_bytes.specs.Object.{parts_of}
use Rattle.fb_bytes.proofs.fields.fields_width.Given as goal

abbrev pub invariant-loop-field : goal.invariant-loop-field
invariant-loop-field l =
    (l.all + fields_width (parts_of (drop l.field-index l.fields)) ≡ fields_width (parts_of l.fields)) × (l.all ≤ 255 * l.field-index)
