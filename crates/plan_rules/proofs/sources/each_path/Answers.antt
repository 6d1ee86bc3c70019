use Rattle.std.proofs.Common.{rules, ◌∙◌, sym, ap, Ok, Err, map}
use Rattle.sub_types.specs.ResultSteps.{collect}
use Rattle.plan_verdict.specs.Checking.{Agrees}
use Rattle.plan_verdict.specs.Reads.{item_in}
use Rattle.plan_rules.proofs.StepLaws.{collect-more, Agrees-refused}
use Rattle.plan_rules.proofs.sources.each_path.Goals as goal

pub loop-item-preserved : goal.loop-item-preserved
loop-item-preserved c =
    collect-more item_in c.args.items.now c.loop-item.item-index c.item-item.result c.item-item.result c.loop-item.paths c.in_ok-path_in.field-0 c.loop-item-test.true c.item-item.is c.loop-item.invariant c.in_ok-path_in.ensures
    ∙ ap Ok (sym c.in_ok-push.ensures.ok)

pub returns-in_err-path_in : goal.returns-in_err-path_in
returns-in_err-path_in c =
    let refused : Agrees (Err c.in_err-path_in.field-0.0) c.args.relation (collect (map item_in c.args.items.now)) =
    Agrees-refused item_in c.args.items.now c.loop-item.item-index c.item-item.result c.item-item.result c.loop-item.paths c.args.relation c.in_err-path_in.field-0.0 c.loop-item-test.true c.item-item.is c.loop-item.invariant c.in_err-path_in.ensures in
    search rules
