use Rattle.std.proofs.Common.{rules, arith, ◌∙◌, pos}
use Rattle.sub_types.specs.declared.value.Value.TheVariants as values
use Rattle.gen_data.proofs.ColumnLaws.{one_more}
use Rattle.gen_data.proofs.columns.ids.Goals as goal

pub loop-order-preserved : goal.loop-order-preserved
loop-order-preserved c = record {
  values = one_more (λ order. values.Int (pos order)) c.loop-order.order c.loop-order.builder.values c.push.new.self.values _ c.loop-order.invariant.values (search (rules, arith)) c.in_ok-push.ensures.ok;
  ty = c.push.ensures.ty ∙ c.loop-order.invariant.ty;
}
