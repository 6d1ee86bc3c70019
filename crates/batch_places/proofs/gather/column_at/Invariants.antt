use Rattle.std.proofs.Common.{◌≡◌, Some, map, take, slice_get}
use Rattle.batch.specs.BatchRows.{types_of}
use Rattle.batch_places.specs.Places.{row_there}
use Rattle.batch_places.proofs.GatherLaws.{column_in}
use Rattle.batch_places.proofs.gather.column_at.Given as goal

-- the values at the places so far
abbrev pub invariant-loop-place : goal.invariant-loop-place
invariant-loop-place l =
    (l.builder.values ≡ column_in (map (row_there l.runs) (take l.place-index l.places)) l.index)
    × (slice_get (types_of l.first) l.index ≡ Some l.builder.ty)
