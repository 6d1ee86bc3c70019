use Rattle.std.proofs.Common.{◌≡◌, map, take}
use Rattle.arrow_meta.specs.Batch.{buffers_of}
use Rattle.arrow_read.proofs.block.shapes.Given as goal

abbrev pub invariant-loop-field : goal.invariant-loop-field
invariant-loop-field l = l.shapes.items ≡ map (λ field. buffers_of field.shape) (take l.field-index l.columns)
