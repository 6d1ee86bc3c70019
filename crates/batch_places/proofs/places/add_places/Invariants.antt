use Rattle.std.proofs.Common.{◌≡◌, ◌++◌}
use Rattle.batch_places.specs.Places.{places_in}
use Rattle.batch_places.proofs.places.add_places.Given as goal

-- the places of the rows so far are added
abbrev pub invariant-loop-row : goal.invariant-loop-row
invariant-loop-row l = l.places.items ≡ l.fn.places.items ++ places_in l.run l.row
