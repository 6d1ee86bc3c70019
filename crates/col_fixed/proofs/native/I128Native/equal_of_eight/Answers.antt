use Rattle.std.proofs.Common.{◌∙◌, ℤ, Bool, pos, get_or, sym, arith}
use Rattle.std.specs.Int.{w128}
use Rattle.std.specs.Ordering.{is_eq, int_cmp}
use Rattle.std.proofs.lemmas.Bool.{eq-eqb, ne_eqb}
use Rattle.col_fixed.specs.Masks.{mask-true, mask-false, mask-fits}
use Rattle.col_fixed.proofs.LaneLaws.{equal}
use Rattle.col_fixed.proofs.native.I128Native.equal_of_eight.Goals as goal
use Rattle.col_fixed.proofs.native.I128Native.equal_of_eight.Goals.{then-left-i, else-left-i}

abbrev is_eq_of : ℤ → ℤ → Bool
is_eq_of x y = is_eq (int_cmp x y)

pub overflow_add-mask : goal.overflow_add-mask
overflow_add-mask c = mask-fits is_eq_of c.args.left.now c.args.right.now c.loop-i.i c.loop-i.mask (pos 0) (pos 0) c.loop-i-test.true (omega arith) (omega arith) c.loop-i.invariant

pub loop-i-preserved : goal.loop-i-preserved
loop-i-preserved c =
    let fits = c.i128_fit.ensures c.loop-i.i (omega arith) in
    let fits' = c.i128_fit-2.ensures c.loop-i.i (omega arith) in
    let same = equal w128 (get_or c.args.left.now c.loop-i.i (pos 0)) (get_or c.args.right.now c.loop-i.i (pos 0)) fits fits' in
    elim c.if-left-i.branch [
      | then-left-i w ↦ rw w.mask-is (mask-true is_eq_of c.args.left.now c.args.right.now c.loop-i.i c.loop-i.mask (pos 0) (pos 0) c.loop-i-test.true (omega arith) (omega arith) c.loop-i.invariant (sym same ∙ eq-eqb _ _ w.if-left-i.true))
      | else-left-i w ↦ rw w.mask-is (mask-false is_eq_of c.args.left.now c.args.right.now c.loop-i.i c.loop-i.mask (pos 0) (pos 0) c.loop-i-test.true (omega arith) (omega arith) c.loop-i.invariant (sym same ∙ ne_eqb _ _ w.if-left-i.false))
    ]
