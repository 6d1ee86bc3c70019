use Rattle.std.proofs.Common.{sym, zero-add, arith}
use Rattle.std.proofs.lemmas.List.FromFn.{map-range_with_len_more}
use Rattle.arrow_meta.specs.Footer.{block_at}
use Rattle.arrow_meta.proofs.read.block.vector_blocks.Goals as goal

pub loop-i-preserved : goal.loop-i-preserved
loop-i-preserved c =
    let more = map-range_with_len_more (block_at c.args.vector.now) 0 c.loop-i.i c.loop-i.i (zero-add c.loop-i.i) in
    record { len = omega (arith, c.in_ok-push.ensures.len); blocks = rw (c.in_ok-push.ensures.items, c.block_at.ensures, c.loop-i.invariant.blocks) (sym more) }
