use Rattle.std.proofs.Common.{sym, zero-add}
use Rattle.std.proofs.lemmas.List.FromFn.{map-range_with_len_more}
use Rattle.arrow_meta.specs.Message.{pair_at}
use Rattle.arrow_meta.proofs.read.block.vector_pairs.Goals as goal

pub loop-i-preserved : goal.loop-i-preserved
loop-i-preserved c =
    let more = map-range_with_len_more (pair_at c.args.vector.now) 0 c.loop-i.i c.loop-i.i (zero-add c.loop-i.i) in
    rw (c.in_ok-push.ensures.items, c.pair_at.ensures, c.loop-i.invariant) (sym more)
