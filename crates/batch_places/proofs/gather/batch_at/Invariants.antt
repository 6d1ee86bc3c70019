use Rattle.std.proofs.Common.{map}
use Rattle.batch.specs.BatchRows.{types_of}
use Rattle.batch_places.specs.Places.{row_there}
use Rattle.batch_places.proofs.GatherLaws.{Gathered}
use Rattle.batch_places.proofs.gather.batch_at.Given as goal

abbrev pub invariant-loop-index : goal.invariant-loop-index
invariant-loop-index l = Gathered (types_of l.first) (map (row_there l.runs) l.places) l.columns.items l.index
