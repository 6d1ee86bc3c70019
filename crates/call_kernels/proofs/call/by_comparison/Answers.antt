-- The function at each place.
use Rattle.call_kernels.specs.Made.{applied_two}
use Rattle.call_kernels.specs.Operand.{values}
use Rattle.plan_denote.specs.Logic.{compared}
use Rattle.kernels.specs.Numbers.{test_of}
use Rattle.call_kernels.specs.Functions.{compare_func}
use Rattle.call_kernels.proofs.MadeLaws.{made_as, named, compared_as}
use Rattle.call_kernels.proofs.call.by_comparison.Goals as goal

pub returns : goal.returns
returns c =
    let kind = c.args.ty.kind in
    let a = values c.args.n c.args.a in
    let b = values c.args.n c.args.b in
    made_as (compared (test_of c.args.op)) (applied_two c.args.func kind c.args.mode c.args.given.now) a b c.args.n c.args.ty c.truths.result
    (named compare_func c.args.func c.args.op (compared (test_of c.args.op)) kind c.args.mode c.args.given.now c.requires.of (compared_as c.args.op kind c.args.mode c.args.given.now))
    (c.truths.ensures (compared (test_of c.args.op)) a b c.args.n c.requires.a c.requires.b c.in_ok-column.ensures)
