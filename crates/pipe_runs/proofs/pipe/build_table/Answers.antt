use Rattle.std.proofs.Common.{◌≡◌, ◌∙◌, sym, ap}
use Rattle.sub_types.specs.Stream.{ended}
use Rattle.plan_pipes.specs.RowMeaning.{table_of}
use Rattle.plan_pipes.specs.declared.pipe.Breaker.TheVariants as breakers
use Rattle.pipe_feeds.specs.Kept.{IsInput}
use Rattle.set_rels.specs.Inputs.{stream_of}
use Rattle.pipe_feeds.proofs.KeptLaws.{typed_more, streams_more}
use Rattle.pipe_flows.proofs.FlowLaws.{parts_as}
use Rattle.pipe_runs.proofs.GatherLaws.{input_as, tables_more}
use Rattle.pipe_runs.proofs.pipe.build_table.Goals as goal

pub returns-clause-typed : goal.returns-clause-typed
returns-clause-typed c =
    let old = c.args.stores.now in
    let types = c.args.given.types.items in
    let end = c.in_ok-end.end.items in
    let input : IsInput types end = input_as types c.deref-2.result.now end (sym c.deref-2.ensures.value) c.in_ok-end.ensures.typed c.in_ok-end.ensures.fit in
    typed_more old.types.items c.push.new.self.types.items old.streams.items c.push.new.self.streams.items types end c.in_ok-push.ensures.types c.in_ok-push.ensures.streams c.requires.typed input

pub returns-clause-rows : goal.returns-clause-rows
returns-clause-rows c = λ rows are streams stand.
    let own = parts_as (breakers.Build c.args.join) c.args.given.types.items c.deref.result.now rows c.args.given.parts.items c.deref.ensures.value are in
    let same : stream_of c.in_ok-end.end.items ≡ ended rows.end = c.in_ok-end.ensures.stream ∙ ap ended (c.in_ok-built.ensures.end rows own) in
    streams_more streams c.args.stores.now.streams.items c.push.new.self.streams.items (ended rows.end) c.in_ok-end.end.items c.in_ok-push.ensures.streams stand same

pub returns-clause-tables : goal.returns-clause-tables
returns-clause-tables c = λ rows are.
    let own = parts_as (breakers.Build c.args.join) c.args.given.types.items c.deref.result.now rows c.args.given.parts.items c.deref.ensures.value are in
    tables_more c.args.stores.now.tables.items c.push.new.self.tables.items c.push-2.new.self.items c.in_ok-built.built (table_of c.args.join rows) c.in_ok-push.ensures.tables c.in_ok-push-2.ensures.items (c.in_ok-built.ensures.table rows own)
