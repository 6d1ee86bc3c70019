use Rattle.std.proofs.Common.{◌≡◌, Some, map, take}
use Rattle.sub_types.specs.OptionSteps.{all_of}
use Rattle.arrow_decode.specs.Indices.{optional_indices, place_among}
use Rattle.arrow_decode.proofs.index.places.Given as goal

-- the places that the indices so far name
abbrev pub invariant-loop-i : goal.invariant-loop-i
invariant-loop-i l = all_of (map (place_among l.values) (take l.i (optional_indices l.size l.signed l.count l.valid l.buffer))) ≡ Some l.at.items
