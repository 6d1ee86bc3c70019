-- `between` at each place.
use Rattle.std.proofs.Common.{IfSome, replicate, sym, subst}
use Rattle.plan_typed.specs.declared.expr.Func.{Func}
use Rattle.plan_denote.specs.Logic.{between}
use Rattle.call_kernels.specs.Made.{IsMade, at_three, applied_three}
use Rattle.call_kernels.specs.Operand.{values}
use Rattle.call_kernels.proofs.MadeLaws.{made_ranged}
use Rattle.call_kernels.proofs.call.by_range.Goals as goal

pub returns : goal.returns
returns c =
    let n = c.args.n in
    let all = values n c.args.a in
    let low = c.args.low.now in
    let high = c.args.high.now in
    let made = made_ranged between all low high n c.args.ty c.truths.result (c.truths.ensures (λ x y. between x low high) all all n c.requires.a c.requires.a c.in_ok-column.ensures) in
    subst (λ (func : Func). IfSome c.truths.result (λ out. IsMade (at_three (applied_three func c.args.ty.kind c.args.mode c.args.given.now) all (replicate n low) (replicate n high)) n c.args.ty out.0 out.1)) (sym c.requires.of) made
