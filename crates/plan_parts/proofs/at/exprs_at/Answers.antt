use Rattle.std.proofs.Common.{◌∙◌}
use Rattle.plan_scan.specs.declared.shape.Shape.TheVariants as s
use Rattle.plan_parts.proofs.ReaderLaws.{read_next}
use Rattle.plan_parts.proofs.at.exprs_at.Goals as goal

pub loop-found-preserved : goal.loop-found-preserved
loop-found-preserved g c = record {
  shape = c.in-Some.ensures.3 ∙ c.loop-found.invariant.shape;
  above = c.in-Some.ensures.4 ∙ c.loop-found.invariant.above;
  whole = read_next c.args.message.now.below s.Expression c.loop-found.left c.next.new.self c.in-Some.found c.loop-found.exprs.items c.push.new.self.items _ c.in_ok-expr_in.field-0
      c.loop-found.invariant.above c.in-Some.ensures c.in_ok-expr_in.ensures c.in_ok-push.ensures.items c.loop-found.invariant.whole;
}
