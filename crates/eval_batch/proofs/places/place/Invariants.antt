-- The literals so far differ from the value.
use Rattle.std.proofs.Common.{◌≡◌, ◌+◌, drop}
use Rattle.batch_nodes.specs.Options.{place_of}
use Rattle.batch_nodes.specs.Parts.{literals}
use Rattle.eval_batch.proofs.places.place.Given as goal

abbrev pub invariant-loop-arm : goal.invariant-loop-arm
invariant-loop-arm l = (l.i ≡ l.arm-index) × (l.i + place_of l.value (literals (drop l.arm-index l.arms)) ≡ place_of l.value (literals l.arms))
