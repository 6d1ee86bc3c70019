use Rattle.std.proofs.Common.{map, sym, ap, arith}
use Rattle.pipe_feeds.specs.Kept.{whole}
use Rattle.pipe_feeds.proofs.KeptLaws.{left_same, left_next}
use Rattle.pipe_feeds.proofs.TakenLaws.{Taken, taken_more}
use Rattle.pipe_feeds.proofs.stores.take_each.Goals as goal

pub loop-at-init : goal.loop-at-init
loop-at-init c = record {
  taken = ap (map (λ (input : Taken). whole input.items)) (sym c.new-inputs.ensures.items);
  left = left_same c.args.streams.now.items;
}

pub loop-at-preserved : goal.loop-at-preserved
loop-at-preserved c =
    let l = c.loop-at in
    let first = c.args.streams.now.items in
    record {
      taken =
          taken_more first l.streams.items c.args.pipes.now l.at-index 0 c.in-Some.pieces c.into_vec.result l.inputs.items c.push.new.self.items (omega arith) l.invariant.left c.in-Some.ensures.taken c.into_vec.ensures c.in_ok-push.ensures.items l.invariant.taken;
      left = left_next first l.streams.items c.take_stored.new.streams.items l.invariant.left c.in-Some.ensures.left;
    }
