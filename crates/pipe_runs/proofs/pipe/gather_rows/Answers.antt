use Rattle.std.proofs.Common.{◌∙◌, sym, ap}
use Rattle.pipe_types.specs.Exact.{gathered_types}
use Rattle.pipe_feeds.specs.Kept.{IsInput}
use Rattle.plan_pipes.specs.RowMeaning.{gathered}
use Rattle.pipe_flows.proofs.FlowLaws.{parts_as}
use Rattle.pipe_feeds.proofs.KeptLaws.{typed_more, streams_more}
use Rattle.pipe_runs.proofs.GatherLaws.{input_as}
use Rattle.pipe_runs.proofs.pipe.gather_rows.Goals as goal

pub returns-clause-typed : goal.returns-clause-typed
returns-clause-typed c =
    let old = c.args.stores.now in
    let stored = c.in_ok-stored.stored.items in
    let pieces = c.in_ok-pieces.pieces.items in
    let breaker = c.args.breaker.now in
    let input : IsInput stored pieces =
    input_as stored (gathered_types breaker c.deref-2.result.now) pieces (c.in_ok-stored.ensures ∙ ap (gathered_types breaker) (c.deref.ensures.value ∙ sym c.deref-2.ensures.value)) c.in_ok-pieces.ensures.typed c.in_ok-pieces.ensures.fit in
    typed_more old.types.items c.push.new.self.types.items old.streams.items c.push.new.self.streams.items stored pieces c.in_ok-push.ensures.types c.in_ok-push.ensures.streams c.requires.typed input

pub returns-clause-rows : goal.returns-clause-rows
returns-clause-rows c = λ rows are streams stand.
    let breaker = c.args.breaker.now in
    let own = parts_as breaker c.args.given.types.items c.deref-2.result.now rows c.args.given.parts.items c.deref-2.ensures.value are in
    streams_more streams c.args.stores.now.streams.items c.push.new.self.streams.items (gathered breaker rows) c.in_ok-pieces.pieces.items c.in_ok-push.ensures.streams stand (c.in_ok-pieces.ensures.stream rows own)
