use Rattle.std.proofs.Common.{◌≡◌, ℤ, take}
use lib.Lanes.{zip2, mask_l}
use Rattle.std.specs.Ordering.{is_lt, int_cmp}
use Rattle.col_fixed.proofs.native.I128Native.less_of_eight.Given as goal

abbrev pub invariant-loop-i : goal.invariant-loop-i
invariant-loop-i l = l.mask ≡ mask_l (zip2 (λ (x y : ℤ). is_lt (int_cmp x y)) (take l.i l.left) (take l.i l.right))
