use Rattle.std.proofs.Common.{◌≡◌, ◌∙◌, get_or, sym, ap, ap₂, arith}
use Rattle.col_fixed.specs.Masks.{mask-true, mask-false, mask-fits}
use Rattle.kernels.specs.Numbers.{holds, test_of}
use Rattle.kernels.proofs.comparison.compare_few.Goals as goal
use Rattle.kernels.proofs.comparison.compare_few.Goals.{then-passes, else-passes}

pub overflow_add-mask : goal.overflow_add-mask
overflow_add-mask g c = mask-fits (holds g.T.Native.number c.args.op) c.args.a.now c.args.b.now c.loop-i.i c.loop-i.mask g.T.Native.zero g.T.Native.zero (omega arith) (omega arith) (omega arith) c.loop-i.invariant

pub loop-i-preserved : goal.loop-i-preserved
loop-i-preserved g c =
    let number = g.T.Native.number in
    let a = c.args.a.now in
    let b = c.args.b.now in
    let x = c.index-a-i.result in
    let y = c.index-b-i.result in
    let test : holds number c.args.op (get_or a c.loop-i.i x) (get_or b c.loop-i.i y) ≡ c.passes.result =
    ap₂ (holds number c.args.op) (sym c.index-a-i.is) (sym c.index-b-i.is) ∙ ap (test_of c.args.op) (sym c.order.ensures) ∙ sym c.passes.ensures in
    elim c.if-passes.branch [
      | then-passes w ↦ rw w.mask-is (mask-true (holds number c.args.op) a b c.loop-i.i c.loop-i.mask x y (omega arith) (omega arith) (omega arith) c.loop-i.invariant (test ∙ w.if-passes.true))
      | else-passes w ↦ rw w.mask-is (mask-false (holds number c.args.op) a b c.loop-i.i c.loop-i.mask x y (omega arith) (omega arith) (omega arith) c.loop-i.invariant (test ∙ w.if-passes.false))
    ]
