use Rattle.std.proofs.Common.{to_z}
use lib.Signed.{lt_z}
use Rattle.std.specs.Int.{w8}
use Rattle.std.specs.Ordering.{is_lt, int_cmp}
use Rattle.col_fixed.proofs.LaneLaws.{mask, byte, less}
use Rattle.col_fixed.proofs.native.I8Native.less_of_eight.Goals as goal

pub overflow_cast-result : goal.overflow_cast-result
overflow_cast-result c = byte w8 (λ a b. lt_z (to_z w8 a) (to_z w8 b)) (λ x y. is_lt (int_cmp x y)) (less w8) c.args.left.now c.args.right.now c.requires.left c.requires.right c.i8_fit.ensures c.i8_fit-2.ensures

pub returns : goal.returns
returns c = mask w8 (λ a b. lt_z (to_z w8 a) (to_z w8 b)) (λ x y. is_lt (int_cmp x y)) (less w8) c.args.left.now c.args.right.now c.requires.left c.requires.right c.i8_fit.ensures c.i8_fit-2.ensures
