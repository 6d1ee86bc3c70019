use Rattle.std.proofs.Common.{◌∙◌}
use Rattle.gen_data.specs.Rows.{quantity_of}
use Rattle.gen_data.proofs.ColumnLaws.{one_more}
use Rattle.gen_data.proofs.columns.quantities.Goals as goal

pub loop-line-preserved : goal.loop-line-preserved
loop-line-preserved c = record {
  values = one_more (quantity_of) c.loop-line.line c.loop-line.builder.values c.push.new.self.values _ c.loop-line.invariant.values (c.quantity.ensures) c.in_ok-push.ensures.ok;
  ty = c.push.ensures.ty ∙ c.loop-line.invariant.ty;
}
