use Rattle.std.proofs.Common.{◌≡◌, ◌≤◌, ◌+◌, ◌*◌, vec_len, ◌++◌, drop}
use Rattle.std.specs.List.{flat_map}
use Rattle.fb_bytes.specs.Layout.{of_width, cell_bytes}
use Rattle.fb_bytes.specs.Object.{parts_of}
use Rattle.fb_bytes.specs.Writing.{blanks}
use Rattle.fb_bytes.proofs.own.put_fields_of.Given as goal

abbrev pub invariant-loop-field : goal.invariant-loop-field
invariant-loop-field l =
    (l.out.items ++ flat_map (cell_bytes 0) (of_width l.width (blanks (parts_of (drop l.field-index l.fields))))
    ≡ l.initial.out.items ++ flat_map (cell_bytes 0) (of_width l.width (blanks (parts_of l.fields))))
    × (vec_len l.out ≤ vec_len l.initial.out + 8 * l.field-index)
