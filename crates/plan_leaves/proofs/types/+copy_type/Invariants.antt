use Rattle.std.proofs.Common.{◌≡◌, take}
use Rattle.plan_leaves.proofs.types.+copy_type.Given as goal

-- the first so many types are copied
abbrev pub invariant-loop-ty : goal.invariant-loop-ty
invariant-loop-ty l = l.copies.items ≡ take l.ty-index l.ty-items
