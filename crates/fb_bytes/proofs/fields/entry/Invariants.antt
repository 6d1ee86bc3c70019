use Rattle.std.proofs.Common.{◌≡◌, ◌+◌, ◌*◌, ◌≤◌, ◌++◌, [], ◌∷◌, drop}
use Rattle.fb_bytes.specs.Layout.{entry, by_width, by_widths, of_width}
use Rattle.fb_bytes.specs.Object.{parts_of}
use Rattle.fb_bytes.specs.Writing.{blanks}
use Rattle.fb_bytes.proofs.fields.entry.Given as goal

abbrev pub invariant-loop-width : goal.invariant-loop-width
invariant-loop-width l =
    (entry l.slot l.from (by_widths (drop l.width-index (8 ∷ 4 ∷ 2 ∷ 1 ∷ [])) (blanks (parts_of l.fields)))
    ≡ entry l.slot 4 (by_width (blanks (parts_of l.fields)))) × (l.from ≤ 4 + 512 * l.width-index)

abbrev pub invariant-loop-field : goal.invariant-loop-field
invariant-loop-field l =
    (entry l.slot l.from (of_width l.width (blanks (parts_of (drop l.field-index l.fields))) ++ by_widths (drop (l.width-index + 1) (8 ∷ 4 ∷ 2 ∷ 1 ∷ [])) (blanks (parts_of l.fields)))
    ≡ entry l.slot 4 (by_width (blanks (parts_of l.fields)))) × (l.from ≤ 4 + 512 * l.width-index + 8 * l.field-index)
