use Rattle.std.proofs.Common.{◌≡◌, map, sym, subst}
use Rattle.std.specs.List.{All}
use Rattle.sub_types.specs.Stream.{Stream}
use Rattle.plan_denote.specs.Rows.{Row}
use Rattle.plan_pipes.specs.Run.{through}
use Rattle.plan_pipes.specs.RowMeaning.{row_steps}
use Rattle.pipe_types.specs.Exact.{exact_steps}
use Rattle.pipe_steps.specs.Tables.{joins_of, tables_seen}
use Rattle.read_rounds.specs.Given.{ArePartsOf, StepsSeen}
use Rattle.open_blocks.specs.Files.{FilesSeen, AreOpenFor, files_at, files_seen}
use Rattle.read_rounds.specs.Told.{TellsRows}
use Rattle.pipe_flows.proofs.read.flow_named.Goals as goal

pub read_counted-requires-clause-open : goal.read_counted-requires-clause-open
read_counted-requires-clause-open g c κs within =
    let files = map (files_seen g.R.Reader.bytes) c.args.files.now.items in
    subst (λ (pipe : StepsSeen). All (λ (one : FilesSeen). one.relation ≡ c.args.relation → AreOpenFor pipe.types one) files) (sym c.new-pipe.ensures.seen) c.requires.open

pub returns-clause-stored : goal.returns-clause-stored
returns-clause-stored g c = subst (λ (pipe : StepsSeen). c.in_ok-given.given.types.items ≡ through exact_steps (joins_of pipe.tables) pipe.steps pipe.types) c.new-pipe.ensures.seen c.in_ok-given.ensures.stored

pub returns-clause-parts : goal.returns-clause-parts
returns-clause-parts g c =
    let found = files_at c.args.relation (map (files_seen g.R.Reader.bytes) c.args.files.now.items) in
    let given = c.in_ok-given.given in
    subst (λ (pipe : StepsSeen). (input : Stream Row) × TellsRows found input × ArePartsOf pipe.breaker given.types.items (through row_steps (tables_seen pipe.tables) pipe.steps input) given.parts.items) c.new-pipe.ensures.seen
    c.in_ok-given.ensures.parts
