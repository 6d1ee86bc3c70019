use Rattle.std.proofs.Common.{◌∙◌, ap, Some}
use Rattle.plan_scan.specs.declared.shape.Shape.TheVariants as s
use Rattle.plan_parts.proofs.ReaderLaws.{read_choice}
use Rattle.plan_decode.proofs.root.input_at.Goals as goal

pub returns-in_ok-new-in-Some : goal.returns-in_ok-new-in-Some
returns-in_ok-new-in-Some c =
    ap Some c.in_ok-new-in-Some.ensures
    ∙ read_choice c.args.message.now c.in_ok-choice_at.field-0 c.in-Some.found s.Rel 1 c.in_ok-relation-in-Some.field-0
    c.in-Some.is c.in_ok-choice_at.ensures.bytes c.in_ok-choice_at.ensures.below c.in_ok-relation-in-Some.ensures
