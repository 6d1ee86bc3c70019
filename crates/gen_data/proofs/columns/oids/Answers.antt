use Rattle.std.proofs.Common.{rules, arith, ◌∙◌, pos}
use Rattle.sub_types.specs.declared.value.Value.TheVariants as values
use Rattle.gen_data.specs.Rows.{order_of}
use Rattle.gen_data.proofs.ColumnLaws.{one_more}
use Rattle.gen_data.proofs.columns.oids.Goals as goal

pub loop-line-preserved : goal.loop-line-preserved
loop-line-preserved c = record {
  values = one_more (λ line. values.Int (pos (order_of c.args.number line))) c.loop-line.line c.loop-line.builder.values c.push.new.self.values _ c.loop-line.invariant.values (search (rules, arith)) c.in_ok-push.ensures.ok;
  ty = c.push.ensures.ty ∙ c.loop-line.invariant.ty;
}
