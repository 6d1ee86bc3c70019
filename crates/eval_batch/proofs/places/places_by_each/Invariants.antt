-- The places of the first so many values.
use Rattle.std.proofs.Common.{◌≡◌, map, take}
use Rattle.batch_nodes.specs.Found.{found_values}
use Rattle.batch_nodes.specs.Options.{place_of}
use Rattle.batch_nodes.specs.Parts.{literals}
use Rattle.eval_batch.proofs.places.places_by_each.Given as goal

abbrev pub invariant-loop-i : goal.invariant-loop-i
invariant-loop-i l = l.places.items ≡ map (λ value. place_of value (literals l.arms)) (take l.i (found_values l.values))
