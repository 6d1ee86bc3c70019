use Rattle.plan_scan.specs.declared.shape.Shape.TheVariants as s
use Rattle.plan_parts.proofs.ReaderLaws.{read_part}
use Rattle.plan_decode.proofs.root.rel_root_at.Goals as goal

pub returns-in_ok-rel_root-in-Some : goal.returns-in_ok-rel_root-in-Some
returns-in_ok-rel_root-in-Some c =
    read_part c.args.won.now c.in_ok-merged.field-0 c.in-Some.found s.RelRoot 2 c.in_ok-rel_root-in-Some.field-0
    c.in-Some.is c.in_ok-merged.ensures.bytes c.in_ok-merged.ensures.below c.message.ensures c.in_ok-rel_root-in-Some.ensures
