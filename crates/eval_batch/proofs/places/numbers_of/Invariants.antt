-- The literals so far.
use Rattle.std.proofs.Common.{◌≡◌, map, take}
use Rattle.sub_types.specs.declared.value.Value.TheVariants as values
use Rattle.batch_nodes.specs.Parts.{literals}
use Rattle.eval_batch.proofs.places.numbers_of.Given as goal

abbrev pub invariant-loop-arm : goal.invariant-loop-arm
invariant-loop-arm l = map values.Int l.numbers.keys ≡ literals (take l.arm-index l.arms)
