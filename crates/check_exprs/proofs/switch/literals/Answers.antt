use Rattle.std.proofs.Common.{rules, ◌∙◌, sym, ap, Ok, Err, map}
use Rattle.sub_types.specs.ResultSteps.{collect}
use Rattle.plan_raw.specs.declared.expr.IfValue.{IfValue}
use Rattle.plan_verdict.specs.Checking.{Agrees}
use Rattle.plan_verdict.specs.Literals.{value_of_kind}
use Rattle.plan_verdict.specs.Verdict.{checked_arm}
use Rattle.plan_rules.proofs.StepLaws.{collect-more, collect-end, Agrees-refused}
use Rattle.check_exprs.proofs.CheckedLaws.{arm_literal, arm_literals}
use Rattle.check_exprs.proofs.switch.literals.Goals as goal

pub loop-one-preserved : goal.loop-one-preserved
loop-one-preserved c =
    let value = λ (one : IfValue). value_of_kind c.args.kind (checked_arm c.args.terms.now one).literal in
    collect-more value c.args.ifs.now c.loop-one.one-index c.one-item.result c.one-item.result c.loop-one.values c.in_ok-value_of_kind.field-0 c.loop-one-test.true c.one-item.is c.loop-one.invariant
    (ap (value_of_kind c.args.kind) (arm_literal c.args.terms.now c.one-item.result) ∙ c.in_ok-value_of_kind.ensures)
    ∙ ap Ok (sym c.in_ok-push.ensures.ok)

pub returns-in_err-value_of_kind : goal.returns-in_err-value_of_kind
returns-in_err-value_of_kind c =
    let value = λ (one : IfValue). value_of_kind c.args.kind (checked_arm c.args.terms.now one).literal in
    let here : Agrees (Err c.in_err-value_of_kind.field-0.0) c.args.relation (value c.one-item.result) = rw (arm_literal c.args.terms.now c.one-item.result) c.in_err-value_of_kind.ensures in
    let refused : Agrees (Err c.in_err-value_of_kind.field-0.0) c.args.relation (collect (map value c.args.ifs.now)) =
    Agrees-refused value c.args.ifs.now c.loop-one.one-index c.one-item.result c.one-item.result c.loop-one.values c.args.relation c.in_err-value_of_kind.field-0.0 c.loop-one-test.true c.one-item.is c.loop-one.invariant here in
    rw (arm_literals (value_of_kind c.args.kind) c.args.terms.now c.args.ifs.now) (search rules)

pub returns : goal.returns
returns c =
    ap collect (arm_literals (value_of_kind c.args.kind) c.args.terms.now c.args.ifs.now)
    ∙ collect-end (λ (one : IfValue). value_of_kind c.args.kind (checked_arm c.args.terms.now one).literal) c.args.ifs.now c.loop-one.one-index c.loop-one.values c.loop-one-test.false c.loop-one.invariant
