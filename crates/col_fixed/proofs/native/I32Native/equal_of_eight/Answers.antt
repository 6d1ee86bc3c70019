use Rattle.std.proofs.Common.{eqb}
use Rattle.std.specs.Int.{w32}
use Rattle.std.specs.Ordering.{is_eq, int_cmp}
use Rattle.col_fixed.proofs.LaneLaws.{mask, byte, equal}
use Rattle.col_fixed.proofs.native.I32Native.equal_of_eight.Goals as goal

pub overflow_cast-result : goal.overflow_cast-result
overflow_cast-result c = byte w32 eqb (λ x y. is_eq (int_cmp x y)) (equal w32) c.args.left.now c.args.right.now c.requires.left c.requires.right c.i32_fit.ensures c.i32_fit-2.ensures

pub returns : goal.returns
returns c = mask w32 eqb (λ x y. is_eq (int_cmp x y)) (equal w32) c.args.left.now c.args.right.now c.requires.left c.requires.right c.i32_fit.ensures c.i32_fit-2.ensures
