-- The places of the first so many values.
use Rattle.std.proofs.Common.{◌≡◌, map, take}
use Rattle.sub_types.specs.declared.value.Value.TheVariants as values
use Rattle.batch_nodes.specs.Found.{found_values}
use Rattle.batch_nodes.specs.Options.{place_of}
use Rattle.eval_batch.proofs.places.places_among_numbers.Given as goal

abbrev pub invariant-loop-i : goal.invariant-loop-i
invariant-loop-i l = l.places.items ≡ map (λ value. place_of value (map values.Int l.numbers.keys)) (take l.i (found_values l.values))
