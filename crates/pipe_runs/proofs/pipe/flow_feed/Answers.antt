use Rattle.std.proofs.Common.{◌∙◌, ℕ, List, [], map, slice_index_or, refl, sym, ap, subst}
use Rattle.sub_types.specs.declared.kind.Ty.{Ty}
use Rattle.plan_pipes.specs.declared.pipe.Feed.{Feed}
use Rattle.plan_pipes.specs.Run.{fed, flow, through}
use Rattle.plan_pipes.specs.RowMeaning.{row_steps}
use Rattle.pipe_types.specs.Exact.{exact_over, exact_steps}
use Rattle.pipe_types.specs.Over.{AreStepsOver, IsBreakerOver, IsFeedOver, IsSetOver}
use Rattle.pipe_steps.specs.Tables.{joins_of, tables_seen}
use Rattle.pipe_steps.specs.declared.built.BuiltTable.{BuiltTable}
use Rattle.cut_flows.specs.Given.{fed_by}
use Rattle.open_blocks.proofs.AddedLaws.{adds_none}
use Rattle.open_blocks.specs.Files.{files_seen}
use Rattle.open_blocks.specs.Taken.{Adds}
use Rattle.pipe_feeds.proofs.KeptLaws.{left_same}
use Rattle.pipe_flows.specs.Bodies.{reads_made, HaveReadInTurn}
use Rattle.pipe_flows.specs.Inputs.{columns_of, reads_seen}
use Rattle.pipe_flows.specs.Receipts.{IsReceiptAt}
use Rattle.pipe_runs.specs.Stands.{types_in}
use Rattle.pipe_runs.proofs.FeedLaws.{read_flows, set_flows, stored_flows}
use Rattle.pipe_runs.proofs.pipe.flow_feed.Goals as goal

pub flow_read-requires-clause-over : goal.flow_read-requires-clause-over
flow_read-requires-clause-over g c κs within =
    let columns = columns_of (reads_seen c.args.reads.now) in
    let stores = c.args.stores.now in
    let steps = c.args.steps.now in
    let here : AreStepsOver (joins_of stores.tables.items) (columns c.in-Read.relation) steps = subst (λ (feed : Feed). AreStepsOver (joins_of stores.tables.items) (fed (exact_over columns) stores.types.items feed) steps) c.in-Read.is c.requires.steps in
    subst (λ (all : List BuiltTable). AreStepsOver (joins_of all) (columns c.in-Read.relation) steps) (sym c.deref.ensures.value) here

pub flow_read-requires-clause-breaker : goal.flow_read-requires-clause-breaker
flow_read-requires-clause-breaker g c κs within =
    let columns = columns_of (reads_seen c.args.reads.now) in
    let steps = c.args.steps.now in
    let breaker = c.args.breaker.now in
    let here : IsBreakerOver (through exact_steps (joins_of c.args.stores.now.tables.items) steps (columns c.in-Read.relation)) breaker = subst (λ (feed : Feed). IsBreakerOver (flow (exact_over columns) (types_in c.args.stores.now) feed steps) breaker) c.in-Read.is c.requires.breaker in
    subst (λ (all : List BuiltTable). IsBreakerOver (through exact_steps (joins_of all) steps (columns c.in-Read.relation)) breaker) (sym c.deref.ensures.value) here

pub flow_stored-requires-clause-breaker : goal.flow_stored-requires-clause-breaker
flow_stored-requires-clause-breaker g c κs within =
    let columns = columns_of (reads_seen c.args.reads.now) in
    subst (λ (feed : Feed). IsBreakerOver (flow (exact_over columns) (types_in c.args.stores.now) feed c.args.steps.now) c.args.breaker.now) c.in-Pipe.is c.requires.breaker

pub flow_set-requires-clause-breaker : goal.flow_set-requires-clause-breaker
flow_set-requires-clause-breaker g c κs within =
    let columns = columns_of (reads_seen c.args.reads.now) in
    let stores = c.args.stores.now in
    let steps = c.args.steps.now in
    let breaker = c.args.breaker.now in
    let here : IsBreakerOver (through exact_steps (joins_of stores.tables.items) steps c.in-Set.types) breaker = subst (λ (feed : Feed). IsBreakerOver (flow (exact_over columns) (types_in stores) feed steps) breaker) c.in-Set.is c.requires.breaker in
    subst (λ (types : List Ty). IsBreakerOver (through exact_steps (joins_of stores.tables.items) steps types) breaker) (sym c.as_slice-in-Set.ensures) here

pub flow_stored-requires-clause-over : goal.flow_stored-requires-clause-over
flow_stored-requires-clause-over g c κs within =
    let columns = columns_of (reads_seen c.args.reads.now) in
    let stores = c.args.stores.now in
    subst (λ (feed : Feed). AreStepsOver (joins_of stores.tables.items) (fed (exact_over columns) stores.types.items feed) c.args.steps.now) c.in-Pipe.is c.requires.steps

pub flow_set-requires-clause-set : goal.flow_set-requires-clause-set
flow_set-requires-clause-set g c κs within =
    let columns = columns_of (reads_seen c.args.reads.now) in
    let stores = c.args.stores.now in
    let r = c.in-Set in
    let over : IsSetOver r.op r.types (map (λ at. slice_index_or stores.types.items at []) r.pipes) = (subst (IsFeedOver columns stores.types.items) r.is c.requires.feed).1 in
    subst (λ (types : List Ty). IsSetOver r.op types (map (λ at. slice_index_or stores.types.items at []) c.as_slice.result.now)) (sym c.as_slice-in-Set.ensures)
    (subst (λ (pipes : List ℕ). IsSetOver r.op r.types (map (λ at. slice_index_or stores.types.items at []) pipes)) (sym c.as_slice.ensures) over)

pub flow_set-requires-clause-over : goal.flow_set-requires-clause-over
flow_set-requires-clause-over g c κs within =
    let columns = columns_of (reads_seen c.args.reads.now) in
    let stores = c.args.stores.now in
    let here : AreStepsOver (joins_of stores.tables.items) c.in-Set.types c.args.steps.now = subst (λ (feed : Feed). AreStepsOver (joins_of stores.tables.items) (fed (exact_over columns) stores.types.items feed) c.args.steps.now) c.in-Set.is c.requires.steps in
    subst (λ (types : List Ty). AreStepsOver (joins_of stores.tables.items) types c.args.steps.now) (sym c.as_slice-in-Set.ensures) here

pub returns-in_ok-of_read-in-Read-clause-stored : goal.returns-in_ok-of_read-in-Read-clause-stored
returns-in_ok-of_read-in-Read-clause-stored g c =
    let columns = columns_of (reads_seen c.args.reads.now) in
    let steps = c.args.steps.now in
    c.in_ok-of_read-in-Read.ensures.stored ∙ ap (λ (all : List BuiltTable). through exact_steps (joins_of all) steps (columns c.in-Read.relation)) c.deref.ensures.value
    ∙ sym (ap (λ (feed : Feed). flow (exact_over columns) (types_in c.args.stores.now) feed steps) c.in-Read.is)

pub returns-in_ok-of_read-in-Read-clause-rows : goal.returns-in_ok-of_read-in-Read-clause-rows
returns-in_ok-of_read-in-Read-clause-rows g c =
    let files = map (files_seen g.R.Reader.bytes) c.args.files.now.items in
    let given = c.in_ok-of_read-in-Read.of_read in
    let r = c.in_ok-of_read-in-Read.ensures.parts in
    read_flows files (reads_seen c.args.reads.now) c.args.feed.now c.args.steps.now c.args.breaker.now c.args.stores.now given.types.items given.parts.items c.in-Read.relation c.deref.result.now r.0 c.in-Read.is c.deref.ensures.value r.1 r.2

pub returns-in_ok-of_read-in-Read-clause-parts : goal.returns-in_ok-of_read-in-Read-clause-parts
returns-in_ok-of_read-in-Read-clause-parts g c =
    let r = c.in_ok-of_read-in-Read.ensures.parts in
    (through row_steps (tables_seen c.deref.result.now) c.args.steps.now r.0, r.2)

pub returns-in_ok-of_read-in-Read-clause-left : goal.returns-in_ok-of_read-in-Read-clause-left
returns-in_ok-of_read-in-Read-clause-left g c = left_same c.args.stores.now.streams.items

pub returns-in_ok-of_read-in-Read-clause-receipts : goal.returns-in_ok-of_read-in-Read-clause-receipts
returns-in_ok-of_read-in-Read-clause-receipts g c =
    let P = IsReceiptAt c.args.crew.now.workers (map (files_seen g.R.Reader.bytes) c.args.files.now.items) (reads_seen c.args.reads.now) in
    subst (λ (fed : List ℕ). Adds P fed c.args.receipts.now.items c.flow_read.new.receipts.items) (sym (ap fed_by c.in-Read.is)) c.in_ok-of_read-in-Read.ensures.receipts

pub returns-in_ok-of_pipe-in-Pipe-clause-stored : goal.returns-in_ok-of_pipe-in-Pipe-clause-stored
returns-in_ok-of_pipe-in-Pipe-clause-stored g c =
    let columns = columns_of (reads_seen c.args.reads.now) in
    c.in_ok-of_pipe-in-Pipe.ensures.stored ∙ sym (ap (λ (feed : Feed). flow (exact_over columns) (types_in c.args.stores.now) feed c.args.steps.now) c.in-Pipe.is)

pub returns-in_ok-of_pipe-in-Pipe-clause-rows : goal.returns-in_ok-of_pipe-in-Pipe-clause-rows
returns-in_ok-of_pipe-in-Pipe-clause-rows g c =
    let files = map (files_seen g.R.Reader.bytes) c.args.files.now.items in
    let given = c.in_ok-of_pipe-in-Pipe.of_pipe in
    stored_flows files (reads_seen c.args.reads.now) c.args.feed.now c.args.steps.now c.args.breaker.now c.args.stores.now given.types.items given.parts.items c.in-Pipe.at c.in-Pipe.is c.in_ok-of_pipe-in-Pipe.ensures.rows

pub returns-in_ok-of_pipe-in-Pipe-clause-parts : goal.returns-in_ok-of_pipe-in-Pipe-clause-parts
returns-in_ok-of_pipe-in-Pipe-clause-parts g c = c.in_ok-of_pipe-in-Pipe.ensures.parts

pub returns-in_ok-of_pipe-in-Pipe-clause-receipts : goal.returns-in_ok-of_pipe-in-Pipe-clause-receipts
returns-in_ok-of_pipe-in-Pipe-clause-receipts g c =
    let P = IsReceiptAt c.args.crew.now.workers (map (files_seen g.R.Reader.bytes) c.args.files.now.items) (reads_seen c.args.reads.now) in
    let old = c.args.receipts.now.items in
    subst (λ (fed : List ℕ). Adds P fed old old) (sym (ap fed_by c.in-Pipe.is)) (adds_none P old)

pub returns-in_ok-of_set-in-Set-clause-stored : goal.returns-in_ok-of_set-in-Set-clause-stored
returns-in_ok-of_set-in-Set-clause-stored g c =
    let columns = columns_of (reads_seen c.args.reads.now) in
    let stores = c.args.stores.now in
    c.in_ok-of_set-in-Set.ensures.stored ∙ ap (through exact_steps (joins_of stores.tables.items) c.args.steps.now) c.as_slice-in-Set.ensures
    ∙ sym (ap (λ (feed : Feed). flow (exact_over columns) (types_in stores) feed c.args.steps.now) c.in-Set.is)

pub returns-in_ok-of_set-in-Set-clause-rows : goal.returns-in_ok-of_set-in-Set-clause-rows
returns-in_ok-of_set-in-Set-clause-rows g c =
    let files = map (files_seen g.R.Reader.bytes) c.args.files.now.items in
    let r = c.in-Set in
    let given = c.in_ok-of_set-in-Set.of_set in
    set_flows files (reads_seen c.args.reads.now) c.args.feed.now c.args.steps.now c.args.breaker.now c.args.stores.now given.types.items given.parts.items r.op r.pipes c.as_slice.result.now r.types r.is c.as_slice.ensures
    c.in_ok-of_set-in-Set.ensures.rows

pub returns-in_ok-of_set-in-Set-clause-parts : goal.returns-in_ok-of_set-in-Set-clause-parts
returns-in_ok-of_set-in-Set-clause-parts g c = c.in_ok-of_set-in-Set.ensures.parts

pub returns-in_ok-of_set-in-Set-clause-receipts : goal.returns-in_ok-of_set-in-Set-clause-receipts
returns-in_ok-of_set-in-Set-clause-receipts g c =
    let P = IsReceiptAt c.args.crew.now.workers (map (files_seen g.R.Reader.bytes) c.args.files.now.items) (reads_seen c.args.reads.now) in
    let old = c.args.receipts.now.items in
    subst (λ (fed : List ℕ). Adds P fed old old) (sym (ap fed_by c.in-Set.is)) (adds_none P old)

pub returns-in_ok-of_read-in-Read-clause-reads : goal.returns-in_ok-of_read-in-Read-clause-reads
returns-in_ok-of_read-in-Read-clause-reads g c =
    let files = map (files_seen g.R.Reader.bytes) c.args.files.now.items in
    let start = reads_made g.R.Reader.reads c.args.files.now.items in
    let now = reads_made g.R.Reader.reads c.flow_read.new.files.items in
    subst (λ (fed : List ℕ). HaveReadInTurn (reads_seen c.args.reads.now) files fed start now) (sym (ap fed_by c.in-Read.is)) (now, c.in_ok-of_read-in-Read.ensures.reads, refl)

pub returns-in_ok-of_pipe-in-Pipe-clause-reads : goal.returns-in_ok-of_pipe-in-Pipe-clause-reads
returns-in_ok-of_pipe-in-Pipe-clause-reads g c =
    let files = map (files_seen g.R.Reader.bytes) c.args.files.now.items in
    let start = reads_made g.R.Reader.reads c.args.files.now.items in
    let now = reads_made g.R.Reader.reads c.args.files.now.items in
    subst (λ (fed : List ℕ). HaveReadInTurn (reads_seen c.args.reads.now) files fed start now) (sym (ap fed_by c.in-Pipe.is)) refl

pub returns-in_ok-of_set-in-Set-clause-reads : goal.returns-in_ok-of_set-in-Set-clause-reads
returns-in_ok-of_set-in-Set-clause-reads g c =
    let files = map (files_seen g.R.Reader.bytes) c.args.files.now.items in
    let start = reads_made g.R.Reader.reads c.args.files.now.items in
    let now = reads_made g.R.Reader.reads c.args.files.now.items in
    subst (λ (fed : List ℕ). HaveReadInTurn (reads_seen c.args.reads.now) files fed start now) (sym (ap fed_by c.in-Set.is)) refl
