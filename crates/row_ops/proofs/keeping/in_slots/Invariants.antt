use Rattle.std.proofs.Common.{◌≡◌, ◌++◌, [], map}
use Rattle.std.specs.List.{All}
use Rattle.std.specs.Vec.Iter.{into_iter_items}
use Rattle.row_ops.specs.Kept.{shown, shown_slot, IsWithin}
use Rattle.row_ops.proofs.keeping.in_slots.Given as goal

-- the columns so far and those that are left are all of them
abbrev pub invariant-loop-column : goal.invariant-loop-column
invariant-loop-column l = (map (shown_slot []) l.slots.items ++ map shown (into_iter_items l.column-iterator) ≡ map shown l.fn.columns.items) × All (IsWithin 0) l.slots.items
