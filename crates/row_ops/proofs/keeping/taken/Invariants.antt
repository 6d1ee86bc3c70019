use Rattle.std.proofs.Common.{◌≡◌, map, take, length, slice_index_or}
use Rattle.std.specs.List.{All}
use Rattle.row_ops.specs.Kept.{nothing, shown, shown_slot, IsWithin}
use Rattle.row_ops.proofs.keeping.taken.Given as goal

-- the columns that were taken so far, and all columns in their slots or among these
abbrev pub invariant-loop-place : goal.invariant-loop-place
invariant-loop-place l =
    (map shown l.kept.items ≡ map (λ place. slice_index_or (map shown l.fn.columns.items) place nothing) (take l.place-index l.places))
    × ((map (shown_slot l.kept.items) l.slots.items ≡ map shown l.fn.columns.items) × All (IsWithin (length l.kept.items)) l.slots.items)
