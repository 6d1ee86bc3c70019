use Rattle.batch_places.proofs.PlaceLaws.{HoldRuns}
use Rattle.batch_places.proofs.places.all_places.Given as goal

abbrev pub invariant-loop-run : goal.invariant-loop-run
invariant-loop-run l = HoldRuns l.runs l.run l.places.items
