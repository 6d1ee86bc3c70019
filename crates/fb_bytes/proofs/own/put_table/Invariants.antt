use Rattle.std.proofs.Common.{◌≡◌, ◌≤◌, ◌+◌, ◌*◌, vec_len, ◌++◌, [], ◌∷◌, drop}
use Rattle.std.specs.List.{flat_map}
use Rattle.fb_bytes.specs.Layout.{by_widths, by_width, cell_bytes}
use Rattle.fb_bytes.specs.Object.{parts_of}
use Rattle.fb_bytes.specs.Writing.{blanks}
use Rattle.fb_bytes.proofs.own.put_table.Given as goal

abbrev pub invariant-loop-width : goal.invariant-loop-width
invariant-loop-width l =
    (l.out.items ++ flat_map (cell_bytes 0) (by_widths (drop l.width-index (8 ∷ 4 ∷ 2 ∷ 1 ∷ [])) (blanks (parts_of l.fields)))
    ≡ l.initial.out.items ++ flat_map (cell_bytes 0) (by_width (blanks (parts_of l.fields))))
    × (vec_len l.out ≤ vec_len l.initial.out + 512 * l.width-index)
