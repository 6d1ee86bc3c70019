use Rattle.plan_scan.specs.declared.shape.Shape.TheVariants as s
use Rattle.plan_parts.proofs.ReaderLaws.{read_part}
use Rattle.plan_parts.proofs.types.struct_type_at.Goals as goal

pub returns-in_ok-struct_type-in-Some : goal.returns-in_ok-struct_type-in-Some
returns-in_ok-struct_type-in-Some c =
    read_part c.args.message.now c.in_ok-merged.field-0 c.in-Some.ty s.StructType c.args.number c.in_ok-struct_type-in-Some.field-0
    c.in-Some.is c.in_ok-merged.ensures.bytes c.in_ok-merged.ensures.below c.message.ensures c.in_ok-struct_type-in-Some.ensures
