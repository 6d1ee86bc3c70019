use Rattle.plan_scan.specs.declared.shape.Shape.TheVariants as s
use Rattle.plan_parts.proofs.ReaderLaws.{read_part}
use Rattle.plan_parts.proofs.literal.literal_at.Goals as goal

pub returns-in_ok-literal_of-in-Some : goal.returns-in_ok-literal_of-in-Some
returns-in_ok-literal_of-in-Some c =
    read_part c.args.message.now c.in_ok-merged.field-0 c.in-Some.found s.Literal c.args.number c.in_ok-literal_of-in-Some.field-0
    c.in-Some.is c.in_ok-merged.ensures.bytes c.in_ok-merged.ensures.below c.message.ensures c.in_ok-literal_of-in-Some.ensures
