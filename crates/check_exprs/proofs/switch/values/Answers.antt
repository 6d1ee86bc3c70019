use Rattle.std.proofs.Common.{sym, subst, rules}
use Rattle.std.specs.Option.{option_map}
use Rattle.plan_raw.specs.declared.expr.IfValue.{out-IfValue}
use Rattle.plan_verdict.specs.Checking.{Comes}
use Rattle.plan_verdict.specs.Exprs as spec
use Rattle.plan_verdict.specs.Meaning.{Arm}
use Rattle.plan_verdict.specs.Rels.{over}
use Rattle.plan_verdict.specs.Verdict.{checked_arm, checked_expr}
use Rattle.plan_verdict.proofs.FoldLaws.{checked_arm-out}
use Rattle.check_exprs.proofs.OrderLaws.{each_made}
use Rattle.check_exprs.proofs.switch.values.Goals as goal

pub returns : goal.returns
returns g c =
    let scope = over c.args.relation c.args.columns.now in
    let terms = c.args.terms.now in
    let check = λ (arm : Arm). spec.required scope arm.value in
    each_made check (checked_arm terms) c.args.ifs.now c.args.progress c.each_of.result (c.each_of.ensures (λ written. check (checked_arm terms written)) (λ progress written result post.
    let value : Comes result (spec.required scope (option_map (checked_expr terms) (out-IfValue written.now).«then») progress) = search rules in
    subst (λ (arm : Arm). Comes result (check arm progress)) (sym (checked_arm-out terms written.now)) value))
