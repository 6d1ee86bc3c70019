use Rattle.pipe_feeds.proofs.TakenLaws.{taken_set, taken_rows}
use Rattle.pipe_feeds.proofs.feed.feed_set.Goals as goal

pub sets-requires : goal.sets-requires
sets-requires c = record {
  over = taken_set c.args.stores.now.streams.items c.args.op c.args.types.now c.args.stores.now.types.items c.args.pipes.now c.in_ok-inputs.inputs.items c.requires.over c.requires.typed c.in_ok-inputs.ensures.taken;
}

pub returns-clause-rows : goal.returns-clause-rows
returns-clause-rows c = λ streams are.
    taken_rows c.args.stores.now.streams.items c.args.op streams c.args.pipes.now c.in_ok-inputs.inputs.items _ c.in_ok-pieces.ensures.stream are c.in_ok-inputs.ensures.taken
