use Rattle.std.proofs.Common.{◌≡◌, ◌*◌, ◌≤◌, take}
use Rattle.std.specs.List.{sum}
use Rattle.arrow_decode.proofs.extents.all_buffers.Given as goal

abbrev pub invariant-loop-shape : goal.invariant-loop-shape
invariant-loop-shape l = record {
  all : l.all ≡ sum (take l.shape-index l.shapes);
  bound : l.all ≤ 255 * l.shape-index;
}
