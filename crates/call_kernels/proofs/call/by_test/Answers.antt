-- The function at each place.
use Rattle.call_kernels.specs.Made.{applied_two}
use Rattle.call_kernels.specs.Operand.{values}
use Rattle.plan_denote.specs.Texts.{tested}
use Rattle.call_kernels.specs.Functions.{text_func, passes}
use Rattle.call_kernels.proofs.MadeLaws.{made_as, named, tested_as}
use Rattle.call_kernels.proofs.call.by_test.Goals as goal

pub returns : goal.returns
returns c =
    let kind = c.args.ty.kind in
    let a = values c.args.n c.args.a in
    let b = values c.args.n c.args.b in
    made_as (tested (passes c.args.test)) (applied_two c.args.func kind c.args.mode c.args.given.now) a b c.args.n c.args.ty c.truths.result
    (named text_func c.args.func c.args.test (tested (passes c.args.test)) kind c.args.mode c.args.given.now c.requires.of (tested_as c.args.test kind c.args.mode c.args.given.now))
    (c.truths.ensures (tested (passes c.args.test)) a b c.args.n c.requires.a c.requires.b c.in_ok-column.ensures)
