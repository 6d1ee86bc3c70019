use Rattle.std.proofs.Common.{◌≡◌, map, take}
use Rattle.set_rels.specs.Keyed.{place_at}
use Rattle.set_rels.proofs.keyed_rows.places_at.Given as goal

-- the places so far
abbrev pub invariant-loop-row : goal.invariant-loop-row
invariant-loop-row l = l.found.items ≡ map (place_at l.places) (take l.row-index l.at)
