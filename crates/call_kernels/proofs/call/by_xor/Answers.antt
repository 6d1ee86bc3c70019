-- `xor` at each place.
use Rattle.std.proofs.Common.{sym, ap}
use Rattle.plan_denote.specs.Logic.{xor_of}
use Rattle.plan_typed.specs.declared.expr.Func.{Func}
use Rattle.call_kernels.specs.Made.{applied_two}
use Rattle.call_kernels.specs.Operand.{values}
use Rattle.call_kernels.proofs.MadeLaws.{made_as}
use Rattle.call_kernels.proofs.call.by_xor.Goals as goal

pub returns : goal.returns
returns c =
    let kind = c.args.ty.kind in
    let a = values c.args.n c.args.a in
    let b = values c.args.n c.args.b in
    made_as xor_of (applied_two c.args.func kind c.args.mode c.args.given.now) a b c.args.n c.args.ty c.truths.result
    (λ x y. ap (λ (func : Func). applied_two func kind c.args.mode c.args.given.now x y) (sym c.requires.of))
    (c.truths.ensures xor_of a b c.args.n c.requires.a c.requires.b c.in_ok-column.ensures)
