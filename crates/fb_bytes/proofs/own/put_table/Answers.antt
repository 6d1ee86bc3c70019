use Rattle.std.proofs.Common.{arith, rules, ◌∙◌}
use Rattle.fb_bytes.proofs.OwnLemmas.{table_appended, widths_more, widths_all}
use Rattle.fb_bytes.proofs.own.put_table.Goals as goal

pub returns : goal.returns
returns c =
    c.in_ok-fill.ensures ∙ table_appended c.len-start.result c.slot_count-slots.result c.table_place-place.result _ c.args.out.now.items c.loop-width.out.items (search rules) (search rules) (search rules)
    (widths_all c.loop-width.width-index _ _ _ (omega arith) c.loop-width.invariant.0 ∙ search rules)

pub loop-width-preserved : goal.loop-width-preserved
loop-width-preserved c = (
  widths_more c.loop-width.width-index _ c.loop-width.out.items _ _ (omega arith) c.in_ok-put_fields_of.ensures.bytes c.loop-width.invariant.0,
  omega (arith, c.in_ok-put_fields_of.ensures.bound),
)
