use Rattle.std.proofs.Common.{◌≡◌, ◌+◌, ◌*◌, vec_len, ◌++◌}
use Rattle.fb_bytes.specs.Layout.{entries, by_width}
use Rattle.fb_bytes.specs.Object.{parts_of}
use Rattle.fb_bytes.specs.Writing.{blanks}
use Rattle.fb_bytes.proofs.own.put_vtable.Given as goal

abbrev pub invariant-loop-slot : goal.invariant-loop-slot
invariant-loop-slot l =
    (l.out.items ≡ l.initial.out.items ++ entries l.slot (by_width (blanks (parts_of l.fields))))
    × (vec_len l.out ≡ vec_len l.initial.out + 2 * l.slot)
