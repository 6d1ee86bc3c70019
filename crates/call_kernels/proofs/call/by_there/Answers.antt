-- The test at each place.
use Rattle.std.proofs.Common.{sym, ap}
use Rattle.plan_typed.specs.declared.expr.Func.{Func}
use Rattle.call_kernels.specs.Made.{applied_one}
use Rattle.call_kernels.specs.Nulls.{there_test}
use Rattle.call_kernels.specs.Operand.{values}
use Rattle.call_kernels.proofs.MadeLaws.{made_each, zipped_same}
use Rattle.call_kernels.proofs.call.by_there.Goals as goal

pub returns : goal.returns
returns c =
    let all = values c.args.n c.args.a in
    made_each (λ x y. there_test x) (applied_one c.args.func c.args.ty.kind) all all c.args.n c.args.ty c.truths.result
    (λ mode given x y. ap (λ (func : Func). applied_one func c.args.ty.kind mode given x y) (sym c.requires.of))
    (c.truths.ensures (λ x y. there_test x) all all c.args.n c.requires.long c.requires.long (zipped_same c.in_ok-column.column there_test (λ n. values n c.args.a) c.args.n c.in_ok-column.ensures))
