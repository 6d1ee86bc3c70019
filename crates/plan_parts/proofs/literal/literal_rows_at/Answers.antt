use Rattle.std.proofs.Common.{◌∙◌}
use Rattle.plan_scan.specs.declared.shape.Shape.TheVariants as s
use Rattle.plan_parts.proofs.ReaderLaws.{read_next}
use Rattle.plan_parts.proofs.literal.literal_rows_at.Goals as goal

pub loop-row-preserved : goal.loop-row-preserved
loop-row-preserved c = record {
  shape = c.in-Some.ensures.3 ∙ c.loop-row.invariant.shape;
  above = c.in-Some.ensures.4 ∙ c.loop-row.invariant.above;
  whole = read_next c.args.message.now.below s.LiteralRow c.loop-row.left c.next.new.self c.in-Some.row c.loop-row.rows.items c.push.new.self.items _ c.in_ok-literal_row.field-0
      c.loop-row.invariant.above c.in-Some.ensures c.in_ok-literal_row.ensures c.in_ok-push.ensures.items c.loop-row.invariant.whole;
}
