use Rattle.std.proofs.Common.{rules, Err, ◌∙◌, sym, ap, Ok, map}
use Rattle.sub_types.specs.ResultSteps.{collect}
use Rattle.plan_verdict.specs.Types.{type_in}
use Rattle.plan_verdict.specs.Checking.{Agrees}
use Rattle.plan_rules.proofs.StepLaws.{collect-more, Agrees-refused}
use Rattle.plan_rules.proofs.columns.each_type.Goals as goal

pub loop-one-preserved : goal.loop-one-preserved
loop-one-preserved c =
    collect-more type_in c.args.raw.now c.loop-one.one-index c.one-item.result c.one-item.result c.loop-one.types c.in_ok-type_in.field-0 c.loop-one-test.true c.one-item.is c.loop-one.invariant c.in_ok-type_in.ensures
    ∙ ap Ok (sym c.in_ok-push.ensures.ok)

pub returns-in_err-type_in : goal.returns-in_err-type_in
returns-in_err-type_in c =
    let refused : Agrees (Err c.in_err-type_in.field-0.0) c.args.relation (collect (map type_in c.args.raw.now)) =
    Agrees-refused type_in c.args.raw.now c.loop-one.one-index c.one-item.result c.one-item.result c.loop-one.types c.args.relation c.in_err-type_in.field-0.0 c.loop-one-test.true c.one-item.is c.loop-one.invariant c.in_err-type_in.ensures in
    search rules
