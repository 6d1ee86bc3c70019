use Rattle.std.proofs.Common.{◌≡◌, ◌∙◌, false, Err, ap, ap₂, sym, subst, FitsSigned}
use Rattle.std.specs.Prelude.{◌&&◌}
use Rattle.std.specs.Int.{w128}
use Rattle.std.proofs.lemmas.Int.{to_z-of_z}
use Rattle.plan_denote.specs.Whole.{is_zero}
use Rattle.kernels.specs.Arith.{divides, exact}
use Rattle.kernels.proofs.ArithLaws.{lost-is}
use Rattle.kernels.proofs.arithmetic.compute.Goals as goal

pub returns-in-Ok-None : goal.returns-in-Ok-None
returns-in-Ok-None g c =
    let number = g.T.Native.number in
    let x = number c.args.x in
    let y = number c.args.y in
    let held_x = to_z-of_z w128 c.wide.result (record { sfits = c.wide.type_inv }) ∙ c.wide.ensures.value in
    let held_y = to_z-of_z w128 c.wide-2.result (record { sfits = c.wide-2.type_inv }) ∙ c.wide-2.ensures.value in
    let lost = rw c.in-Ok-None.field-0-is at c.in-Ok-None.ensures in
    let some : (divides c.args.op && is_zero y) ≡ false = ap (λ z. divides c.args.op && is_zero z) (sym held_y) ∙ lost.0 in
    let none : FitsSigned w128 (exact c.args.op x y) → ⊥ = λ fits. lost.1 (subst (FitsSigned w128) (ap₂ (exact c.args.op) (sym held_x) (sym held_y)) fits) in
    ap Err c.beyond_all.ensures.kind
    ∙ lost-is g.T.Native.width c.args.op c.args.mode (number c.args.range.0) (number c.args.range.1) x y c.beyond_all.ensures.least c.beyond_all.ensures.greatest c.wide.ensures.fits c.wide-2.ensures.fits some none
