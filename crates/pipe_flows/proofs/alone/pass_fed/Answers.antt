use Rattle.std.proofs.Common.{◌≡◌, sym, subst}
use Rattle.plan_pipes.specs.Run.{through}
use Rattle.plan_pipes.specs.RowMeaning.{row_steps}
use Rattle.pipe_types.specs.Exact.{exact_steps}
use Rattle.pipe_steps.specs.Tables.{joins_of, tables_seen}
use Rattle.set_rels.specs.Inputs.{stream_of}
use Rattle.read_rounds.specs.Given.{ArePartsOf, StepsSeen}
use Rattle.pipe_feeds.specs.Kept.{IsInput}
use Rattle.pipe_flows.proofs.FlowLaws.{steps_over}
use Rattle.pipe_flows.proofs.alone.pass_fed.Goals as goal

pub pass_alone-requires-clause-input : goal.pass_alone-requires-clause-input
pass_alone-requires-clause-input g c κs within =
    let seen = steps_over c.new-pipe.result c.args.steps.now c.args.tables.now c.deref.result.now c.args.fed.types.items c.args.breaker.now c.new-pipe.ensures.seen c.deref.ensures.value in
    subst (λ (pipe : StepsSeen). IsInput pipe.types c.args.fed.pieces.items) (sym seen) c.requires.input

pub returns-clause-stored : goal.returns-clause-stored
returns-clause-stored g c =
    let seen = steps_over c.new-pipe.result c.args.steps.now c.args.tables.now c.deref.result.now c.args.fed.types.items c.args.breaker.now c.new-pipe.ensures.seen c.deref.ensures.value in
    subst (λ (pipe : StepsSeen). c.in_ok-given.given.types.items ≡ through exact_steps (joins_of pipe.tables) pipe.steps pipe.types) seen c.in_ok-given.ensures.stored

pub returns-clause-parts : goal.returns-clause-parts
returns-clause-parts g c =
    let given = c.in_ok-given.given in
    let seen = steps_over c.new-pipe.result c.args.steps.now c.args.tables.now c.deref.result.now c.args.fed.types.items c.args.breaker.now c.new-pipe.ensures.seen c.deref.ensures.value in
    subst (λ (pipe : StepsSeen). ArePartsOf pipe.breaker given.types.items (through row_steps (tables_seen pipe.tables) pipe.steps (stream_of c.args.fed.pieces.items)) given.parts.items) seen c.in_ok-given.ensures.parts
