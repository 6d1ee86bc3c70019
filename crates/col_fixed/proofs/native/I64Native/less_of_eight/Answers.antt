use Rattle.std.proofs.Common.{to_z}
use lib.Signed.{lt_z}
use Rattle.std.specs.Int.{w64}
use Rattle.std.specs.Ordering.{is_lt, int_cmp}
use Rattle.col_fixed.proofs.LaneLaws.{mask, byte, less}
use Rattle.col_fixed.proofs.native.I64Native.less_of_eight.Goals as goal

pub overflow_cast-result : goal.overflow_cast-result
overflow_cast-result c = byte w64 (λ a b. lt_z (to_z w64 a) (to_z w64 b)) (λ x y. is_lt (int_cmp x y)) (less w64) c.args.left.now c.args.right.now c.requires.left c.requires.right c.i64_fit.ensures c.i64_fit-2.ensures

pub returns : goal.returns
returns c = mask w64 (λ a b. lt_z (to_z w64 a) (to_z w64 b)) (λ x y. is_lt (int_cmp x y)) (less w64) c.args.left.now c.args.right.now c.requires.left c.requires.right c.i64_fit.ensures c.i64_fit-2.ensures
