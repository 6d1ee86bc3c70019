use Rattle.std.proofs.Common.{◌∙◌, ap}
use Rattle.plan_scan.specs.declared.shape.Shape.TheVariants as s
use Rattle.plan_parts.proofs.ReaderLaws.{read_next, read_part}
use Rattle.std.specs.Option.{option_map_or}
use Rattle.plan_leaves.specs.declared.types.RawType.TheVariants as types
use Rattle.plan_parts.proofs.types.+types.Goals as goal

pub member-returns-in_ok-struct_type-in-Some : goal.member-returns-in_ok-struct_type-in-Some
member-returns-in_ok-struct_type-in-Some t c =
    let found = read_part c.args.won.now c.in_ok-merged-in-25.field-0 c.in-Some.inner s.StructType 25 c.in_ok-struct_type-in-Some.field-0
    c.in-Some.is c.in_ok-merged-in-25.ensures.bytes c.in_ok-merged-in-25.ensures.below c.message.ensures c.in_ok-struct_type-in-Some.ensures in
    rw c.in-25.is (ap (λ o. option_map_or (λ inner. types.Struct inner.types) o types.Missing) found)

pub struct_type-loop-ty-preserved : goal.struct_type-loop-ty-preserved
struct_type-loop-ty-preserved t c = record {
  shape = c.in-Some.ensures.3 ∙ c.loop-ty.invariant.shape;
  above = c.in-Some.ensures.4 ∙ c.loop-ty.invariant.above;
  whole = read_next c.args.message.now.below s.DataType c.loop-ty.left c.next.new.self c.in-Some.ty c.loop-ty.types.items c.push.new.self.items _ c.in_ok-data_type.field-0
      c.loop-ty.invariant.above c.in-Some.ensures c.in_ok-data_type.ensures c.in_ok-push.ensures.items c.loop-ty.invariant.whole;
}
