use Rattle.std.proofs.Common.{◌∙◌, take, arith}
use Rattle.std.proofs.Math.Facts.{sfits_to_z}
use Rattle.kernels.specs.Total.{total}
use Rattle.kernels.proofs.ArithLaws.{abs-narrow}
use Rattle.kernels.proofs.TotalLaws.{IsShort-none, short_fits, short-more, total-more, total-all}
use Rattle.kernels.proofs.total.narrow_total.Goals as goal

pub overflow_add-total : goal.overflow_add-total
overflow_add-total g c =
    let number = g.T.Native.number in
    let x = c.index-values-i.result in
    let narrow = abs-narrow g.T.Native.width (omega (arith, g.met.T.Native.sized, c.requires.narrow)) (number x) c.wide-total.ensures.fits in
    short_fits (total number (take c.loop-i.i c.args.values.now)) (number x) c.loop-i.i _ c.wide-total.result (omega (arith, c.requires.few)) c.loop-i.invariant c.wide-total.ensures.value narrow

pub loop-i-init : goal.loop-i-init
loop-i-init g c = IsShort-none

pub loop-i-preserved : goal.loop-i-preserved
loop-i-preserved g c =
    let number = g.T.Native.number in
    let x = c.index-values-i.result in
    let narrow = abs-narrow g.T.Native.width (omega (arith, g.met.T.Native.sized, c.requires.narrow)) (number x) c.wide-total.ensures.fits in
    rw (total-more number c.args.values.now c.loop-i.i x c.loop-i-test.true c.index-values-i.is)
    (short-more (total number (take c.loop-i.i c.args.values.now)) (number x) c.loop-i.i _ c.wide-total.result (omega (arith, c.requires.few)) c.loop-i.invariant c.wide-total.ensures.value narrow)

pub returns-clause-number : goal.returns-clause-number
returns-clause-number g c = c.loop-i.invariant.is ∙ total-all g.T.Native.number c.args.values.now c.loop-i.i c.loop-i-test.false

pub returns-clause-fits : goal.returns-clause-fits
returns-clause-fits g c = sfits_to_z c.loop-i.auto.total
