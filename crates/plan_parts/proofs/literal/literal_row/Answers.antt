use Rattle.std.proofs.Common.{◌∙◌}
use Rattle.plan_scan.specs.declared.shape.Shape.TheVariants as s
use Rattle.plan_parts.proofs.ReaderLaws.{read_next}
use Rattle.plan_parts.proofs.literal.literal_row.Goals as goal

pub loop-field-preserved : goal.loop-field-preserved
loop-field-preserved c = record {
  shape = c.in-Some.ensures.3 ∙ c.loop-field.invariant.shape;
  above = c.in-Some.ensures.4 ∙ c.loop-field.invariant.above;
  whole = read_next c.args.message.now.below s.Literal c.loop-field.left c.next.new.self c.in-Some.field c.loop-field.fields.items c.push.new.self.items _ c.in_ok-literal_of.field-0
      c.loop-field.invariant.above c.in-Some.ensures c.in_ok-literal_of.ensures c.in_ok-push.ensures.items c.loop-field.invariant.whole;
}
