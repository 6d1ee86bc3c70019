use Rattle.std.proofs.Common.{◌≡◌, map, vec_len}
use Rattle.std.specs.List.{range_with_len}
use Rattle.arrow_meta.specs.Footer.{block_at}
use Rattle.arrow_meta.proofs.read.block.vector_blocks.Given as goal

abbrev pub invariant-loop-i : goal.invariant-loop-i
invariant-loop-i l = record {
  len : vec_len l.blocks ≡ l.i;
  blocks : l.blocks.items ≡ map (block_at l.vector) (range_with_len 0 l.i);
}
