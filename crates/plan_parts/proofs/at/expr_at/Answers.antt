use Rattle.plan_scan.specs.declared.shape.Shape.TheVariants as s
use Rattle.plan_parts.proofs.ReaderLaws.{read_choice}
use Rattle.plan_parts.proofs.at.expr_at.Goals as goal

pub returns-in_ok-expression-in-Some : goal.returns-in_ok-expression-in-Some
returns-in_ok-expression-in-Some g c =
    read_choice c.args.message.now c.in_ok-choice_at.field-0 c.in-Some.found s.Expression c.args.number c.in_ok-expression-in-Some.field-0
    c.in-Some.is c.in_ok-choice_at.ensures.bytes c.in_ok-choice_at.ensures.below c.in_ok-expression-in-Some.ensures
