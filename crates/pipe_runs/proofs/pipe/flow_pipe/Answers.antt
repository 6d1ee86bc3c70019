use Rattle.std.proofs.Common.{◌∙◌, List, map, sym, ap, subst}
use Rattle.plan_pipes.specs.declared.pipe.Step.{Step}
use Rattle.plan_pipes.specs.Run.{fed, flow}
use Rattle.pipe_types.specs.Exact.{exact_over}
use Rattle.pipe_types.specs.Over.{AreStepsOver, IsBreakerOver}
use Rattle.pipe_steps.specs.Tables.{joins_of}
use Rattle.open_blocks.specs.Files.{files_seen}
use Rattle.pipe_flows.specs.Inputs.{columns_of, reads_seen}
use Rattle.pipe_runs.specs.Stands.{FlowsFrom, types_in}
use Rattle.pipe_runs.proofs.pipe.flow_pipe.Goals as goal

pub flow_feed-requires-clause-feed : goal.flow_feed-requires-clause-feed
flow_feed-requires-clause-feed g c κs within = c.requires.over.feed

pub flow_feed-requires-clause-steps : goal.flow_feed-requires-clause-steps
flow_feed-requires-clause-steps g c κs within =
    let stores = c.args.stores.now in
    subst (λ (steps : List Step). AreStepsOver (joins_of stores.tables.items) (fed (exact_over (columns_of (reads_seen c.args.reads.now))) stores.types.items c.args.pipe.now.feed) steps) (sym c.as_slice-steps.ensures) c.requires.over.steps

pub flow_feed-requires-clause-breaker : goal.flow_feed-requires-clause-breaker
flow_feed-requires-clause-breaker g c κs within =
    let pipe = c.args.pipe.now in
    subst (λ (steps : List Step). IsBreakerOver (flow (exact_over (columns_of (reads_seen c.args.reads.now))) (types_in c.args.stores.now) pipe.feed steps) pipe.breaker) (sym c.as_slice-steps.ensures) c.requires.over.breaker

pub returns-clause-stored : goal.returns-clause-stored
returns-clause-stored g c = c.in_ok-given.ensures.stored ∙ ap (flow (exact_over (columns_of (reads_seen c.args.reads.now))) (types_in c.args.stores.now) c.args.pipe.now.feed) c.as_slice-steps.ensures

pub returns-clause-rows : goal.returns-clause-rows
returns-clause-rows g c =
    let given = c.in_ok-given.given in
    let pipe = c.args.pipe.now in
    subst (λ (steps : List Step). FlowsFrom (map (files_seen g.R.Reader.bytes) c.args.files.now.items) (reads_seen c.args.reads.now) pipe.feed steps pipe.breaker c.args.stores.now given.types.items given.parts.items) c.as_slice-steps.ensures
    c.in_ok-given.ensures.rows
