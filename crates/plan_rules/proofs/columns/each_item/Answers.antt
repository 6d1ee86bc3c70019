use Rattle.std.proofs.Common.{rules, pos, ◌∙◌, sym, ap, refl, get_or, Ok, Err, map, false}
use Rattle.sub_types.specs.ResultSteps.{collect}
use Rattle.plan_leaves.specs.declared.mask.MaskItem.{MaskItem}
use Rattle.plan_verdict.specs.Checking.{Agrees}
use Rattle.plan_verdict.specs.Columns.{mask_item}
use Rattle.plan_rules.proofs.StepLaws.{collect-more, Agrees-refused}
use Rattle.plan_rules.proofs.columns.each_item.Goals as goal

abbrev none : MaskItem
none = record { field = pos 0; child = false }

pub loop-item-preserved : goal.loop-item-preserved
loop-item-preserved c =
    let item = get_or c.args.items.now c.loop-item.item-index none in
    collect-more (mask_item c.args.count) c.args.items.now c.loop-item.item-index none item c.loop-item.places c.in_ok-mask_item.field-0 c.loop-item-test.true refl c.loop-item.invariant c.in_ok-mask_item.ensures
    ∙ ap Ok (sym c.in_ok-push.ensures.ok)

pub returns-in_err-mask_item : goal.returns-in_err-mask_item
returns-in_err-mask_item c =
    let item = get_or c.args.items.now c.loop-item.item-index none in
    let refused : Agrees (Err c.in_err-mask_item.field-0.0) c.args.relation (collect (map (mask_item c.args.count) c.args.items.now)) =
    Agrees-refused (mask_item c.args.count) c.args.items.now c.loop-item.item-index none item c.loop-item.places c.args.relation c.in_err-mask_item.field-0.0 c.loop-item-test.true refl c.loop-item.invariant c.in_err-mask_item.ensures in
    search rules
