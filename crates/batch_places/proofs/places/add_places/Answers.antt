use Rattle.batch_places.proofs.PlaceLaws.{places_more}
use Rattle.batch_places.proofs.places.add_places.Goals as goal

pub loop-row-preserved : goal.loop-row-preserved
loop-row-preserved c = places_more c.args.run c.loop-row.row c.args.places.now.items c.loop-row.places.items c.push.new.self.items c.in_ok-push.ensures.items c.loop-row.invariant
