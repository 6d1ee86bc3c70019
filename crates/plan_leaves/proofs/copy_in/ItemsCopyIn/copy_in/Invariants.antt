use Rattle.std.proofs.Common.{◌≡◌, take}
use Rattle.plan_leaves.proofs.copy_in.ItemsCopyIn.copy_in.Given as goal

-- the first so many items are copied
abbrev pub invariant-loop-item : goal.invariant-loop-item
invariant-loop-item g l = l.copies.items ≡ take l.item-index l.items
