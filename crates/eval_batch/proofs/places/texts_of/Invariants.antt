-- The literals so far.
use Rattle.std.proofs.Common.{◌≡◌, map, take}
use Rattle.sub_types.specs.declared.value.Value.TheVariants as values
use Rattle.batch_nodes.specs.Parts.{literals}
use Rattle.eval_batch.proofs.places.texts_of.Given as goal

abbrev pub invariant-loop-arm : goal.invariant-loop-arm
invariant-loop-arm l = map (λ text. values.Bytes text.items) l.texts.keys ≡ literals (take l.arm-index l.arms)
