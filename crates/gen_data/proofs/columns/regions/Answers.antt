use Rattle.std.proofs.Common.{◌∙◌, sym, subst, ap}
use Rattle.std.specs.Str.{IsUtf8}
use Rattle.sub_types.specs.declared.kind.Ty.{Ty}
use Rattle.sub_types.specs.Value.{InKind}
use Rattle.gen_data.proofs.RegionLaws.{region-utf8}
use Rattle.sub_types.specs.declared.value.Value.TheVariants as values
use Rattle.gen_data.specs.Rows.{region_of}
use Rattle.gen_data.proofs.ColumnLaws.{one_more}
use Rattle.gen_data.proofs.columns.regions.Goals as goal

pub loop-order-preserved : goal.loop-order-preserved
loop-order-preserved c = record {
  values = one_more (λ order. values.Bytes (region_of order)) c.loop-order.order c.loop-order.builder.values c.push.new.self.values _ c.loop-order.invariant.values (ap values.Bytes c.in_ok-region.ensures) c.in_ok-push.ensures.ok;
  ty = c.push.ensures.ty ∙ c.loop-order.invariant.ty;
}

pub push-requires : goal.push-requires
push-requires c = subst (λ (ty : Ty). InKind ty.kind (values.Bytes c.in_ok-region.field-0)) (sym c.loop-order.invariant.ty) (subst IsUtf8 (sym c.in_ok-region.ensures) (region-utf8 c.loop-order.order))
