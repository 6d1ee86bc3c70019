use Rattle.std.proofs.Common.{◌≡◌, map}
use Rattle.std.specs.List.{range_with_len}
use Rattle.arrow_meta.specs.Message.{pair_at}
use Rattle.arrow_meta.proofs.read.block.vector_pairs.Given as goal

abbrev pub invariant-loop-i : goal.invariant-loop-i
invariant-loop-i l = l.pairs.items ≡ map (pair_at l.vector) (range_with_len 0 l.i)
