use Rattle.sort_merge.proofs.RowLaws.{places_more}
use Rattle.sort_merge.proofs.order.all_rows.Goals as goal

pub loop-row-preserved : goal.loop-row-preserved
loop-row-preserved c = places_more c.loop-row.row c.loop-row.places.items c.push.new.self.items c.in_ok-push.ensures.items c.loop-row.invariant
