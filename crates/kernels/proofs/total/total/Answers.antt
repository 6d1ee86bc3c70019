use Rattle.std.proofs.Common.{◌∙◌, ◌+ℤ◌, FitsSigned, sym, ap₂, subst}
use Rattle.std.specs.Int.{w128}
use Rattle.std.proofs.lemmas.Int.{to_z-of_z}
use Rattle.std.proofs.Math.Facts.{sfits_to_z}
use Rattle.kernels.proofs.TotalLaws.{total-more, total-all}
use Rattle.kernels.proofs.total.total.Goals as goal

pub loop-i-preserved : goal.loop-i-preserved
loop-i-preserved g c =
    let number = g.T.Native.number in
    let x = c.index-values-i.result in
    let sum = c.in_ok-total.ensures in
    to_z-of_z w128 c.in_ok-total.total (subst (FitsSigned w128) (sym sum.1) sum.0)
    ∙ sum.1
    ∙ ap₂ ◌+ℤ◌ c.loop-i.invariant (to_z-of_z w128 c.wide.result (record { sfits = c.wide.type_inv }) ∙ c.wide.ensures.value)
    ∙ sym (total-more number c.args.values.now c.loop-i.i x c.loop-i-test.true c.index-values-i.is)

pub returns-clause-number : goal.returns-clause-number
returns-clause-number g c = c.loop-i.invariant ∙ total-all g.T.Native.number c.args.values.now c.loop-i.i c.loop-i-test.false

pub returns-clause-fits : goal.returns-clause-fits
returns-clause-fits g c = sfits_to_z c.loop-i.auto.total
