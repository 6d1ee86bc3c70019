use Rattle.std.proofs.Common.{sym, subst, map, Option, rules as given}
use Rattle.plan_raw.specs.declared.aggregate.AggregateFunction.{out-AggregateFunction}
use Rattle.plan_typed.specs.declared.expr.Expr.{Expr}
use Rattle.plan_typed.specs.declared.rel.TypedMeasure.{TypedMeasure}
use Rattle.plan_verdict.specs.Aggregates as spec
use Rattle.plan_verdict.specs.Checking.{Checking, Comes}
use Rattle.plan_verdict.specs.Meaning.{Scope}
use Rattle.plan_verdict.specs.Rels.{over}
use Rattle.plan_verdict.specs.Verdict.{checked_argument}
use Rattle.plan_verdict.proofs.FoldLaws.{checked_function-check}
use Rattle.check_groups.proofs.measure.measured.Goals as goal

pub returns : goal.returns
returns g c =
    let terms = c.args.terms.now in
    let scope = over c.args.number c.args.columns.now in
    let one = out-AggregateFunction c.args.function.now in
    let found : Comes c.measured_by.result (spec.measured terms one.function_reference one.output_type (map (checked_argument terms) one.arguments) one.options scope c.args.kept c.args.progress) = search given in
    subst (λ (check : Scope → Option Expr → Checking TypedMeasure). Comes c.measured_by.result (check scope c.args.kept c.args.progress)) (sym (checked_function-check terms c.args.function.now)) found
