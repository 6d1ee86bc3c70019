use Rattle.std.proofs.Common.{◌≡◌, subst}
use Rattle.plan_pipes.specs.Run.{through}
use Rattle.plan_pipes.specs.RowMeaning.{row_steps}
use Rattle.pipe_types.specs.Exact.{exact_steps}
use Rattle.pipe_steps.specs.Tables.{joins_of, tables_seen}
use Rattle.set_rels.specs.Inputs.{stream_of}
use Rattle.read_rounds.specs.Given.{StepsSeen}
use Rattle.pipe_flows.proofs.FlowLaws.{input_stored, parts_as}
use Rattle.pipe_flows.proofs.alone.pass_alone.Goals as goal

pub pass_pieces-requires-clause-stored : goal.pass_pieces-requires-clause-stored
pass_pieces-requires-clause-stored g c κs within = input_stored c.args.pipe.now.types c.args.pieces.items c.requires.input

pub returns-clause-stored : goal.returns-clause-stored
returns-clause-stored g c = subst (λ (way : StepsSeen). c.in_ok-stored.stored.items ≡ through exact_steps (joins_of way.tables) way.steps way.types) c.pipe.view_is c.in_ok-stored.ensures

pub returns-clause-parts : goal.returns-clause-parts
returns-clause-parts g c =
    let pipe = c.args.pipe.now in
    let types = c.in_ok-stored.stored.items in
    let same : types ≡ through exact_steps (joins_of pipe.tables) pipe.steps pipe.types = subst (λ (way : StepsSeen). types ≡ through exact_steps (joins_of way.tables) way.steps way.types) c.pipe.view_is c.in_ok-stored.ensures in
    parts_as pipe.breaker (through exact_steps (joins_of pipe.tables) pipe.steps pipe.types) types (through row_steps (tables_seen pipe.tables) pipe.steps (stream_of c.args.pieces.items)) c.in_ok-round.round.parts.items same c.in_ok-round.ensures.parts
