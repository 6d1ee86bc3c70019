use Rattle.std.proofs.Common.{◌≡◌, ◌∙◌, List, [], drop, refl, sym, subst}
use Rattle.std.specs.Prelude.{vec_len}
use Rattle.sub_types.specs.declared.kind.Ty.{Ty}
use Rattle.sub_types.specs.Stream.{Stream}
use Rattle.plan_typed.specs.declared.rel.Source.TheVariants as sources
use Rattle.plan_denote.specs.Rows.{Row}
use Rattle.plan_pipes.specs.Run.{through}
use Rattle.plan_pipes.specs.RowMeaning.{row_steps}
use Rattle.pipe_types.specs.Exact.{exact_steps}
use Rattle.pipe_types.specs.Over.{AreStepsOver}
use Rattle.pipe_steps.specs.Tables.{joins_of, tables_seen}
use Rattle.set_rels.specs.Inputs.{stream_of}
use Rattle.read_rounds.specs.Given.{ArePartsOf, StepsSeen}
use Rattle.pipe_feeds.specs.Kept.{IsInput}
use Rattle.pipe_flows.specs.Receipts.{batches_from}
use Rattle.pipe_flows.proofs.FlowLaws.{breaker_behind, rest_is, steps_behind}
use Rattle.pipe_flows.proofs.ReceiptLaws.{receipt_as}
use Rattle.pipe_flows.proofs.virtual_read.flow_virtual.Goals as goal

pub new-pipe-requires-clause-over : goal.new-pipe-requires-clause-over
new-pipe-requires-clause-over g c =
    subst (AreStepsOver (joins_of c.args.tables.now) c.deref.result.now) (sym (rest_is c.args.steps.now))
    (subst (λ (types : List Ty). AreStepsOver (joins_of c.args.tables.now) types (drop 1 c.args.steps.now)) (sym c.deref.ensures.value) c.in_ok-fed.ensures.passed.over)

pub new-pipe-requires-clause-breaker : goal.new-pipe-requires-clause-breaker
new-pipe-requires-clause-breaker g c =
    breaker_behind c.args.steps.now c.args.tables.now c.deref.result.now c.in_ok-fed.fed.types.items c.args.types.now c.args.breaker.now c.deref.ensures.value c.in_ok-fed.ensures.passed.stores c.requires.breaker

pub pass_counted-requires-clause-input : goal.pass_counted-requires-clause-input
pass_counted-requires-clause-input g c κs within =
    let fed = c.in_ok-fed.fed in
    let seen = steps_behind c.new-pipe.result c.args.steps.now c.args.tables.now c.deref.result.now fed.types.items c.args.breaker.now c.new-pipe.ensures.seen c.deref.ensures.value in
    subst (λ (pipe : StepsSeen). IsInput pipe.types fed.pieces.items) (sym seen) c.in_ok-fed.ensures.passed.input

pub returns-clause-stored : goal.returns-clause-stored
returns-clause-stored g c =
    let fed = c.in_ok-fed.fed in
    let seen = steps_behind c.new-pipe.result c.args.steps.now c.args.tables.now c.deref.result.now fed.types.items c.args.breaker.now c.new-pipe.ensures.seen c.deref.ensures.value in
    subst (λ (pipe : StepsSeen). c.in_ok-given.given.types.items ≡ through exact_steps (joins_of pipe.tables) pipe.steps pipe.types) seen c.in_ok-given.ensures.stored ∙ c.in_ok-fed.ensures.passed.stores

pub returns-clause-parts : goal.returns-clause-parts
returns-clause-parts g c =
    let fed = c.in_ok-fed.fed in
    let given = c.in_ok-given.given in
    let seen = steps_behind c.new-pipe.result c.args.steps.now c.args.tables.now c.deref.result.now fed.types.items c.args.breaker.now c.new-pipe.ensures.seen c.deref.ensures.value in
    subst (λ (rows : Stream Row). ArePartsOf c.args.breaker.now given.types.items rows given.parts.items) (c.in_ok-fed.ensures.passed.rows (tables_seen c.args.tables.now))
    (subst (λ (pipe : StepsSeen). ArePartsOf pipe.breaker given.types.items (through row_steps (tables_seen pipe.tables) pipe.steps (stream_of fed.pieces.items)) given.parts.items) seen c.in_ok-given.ensures.parts)

pub returns-clause-receipts : goal.returns-clause-receipts
returns-clause-receipts g c =
    let workers = c.args.crew.now.workers in
    receipt_as workers workers c.args.relation (vec_len c.in_ok-fed.fed.pieces) (batches_from [] c.args.relation (sources.Rows c.args.rows.now)) c.args.receipts.now.items c.pass_counted.new.receipts.items refl c.in_ok-fed.ensures.count c.in_ok-given.ensures.receipts
