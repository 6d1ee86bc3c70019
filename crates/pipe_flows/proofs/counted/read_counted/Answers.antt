use Rattle.std.proofs.Common.{◌≡◌, map, subst}
use Rattle.std.specs.Prelude.{vec_len}
use Rattle.plan_pipes.specs.Run.{through}
use Rattle.plan_pipes.specs.RowMeaning.{row_steps}
use Rattle.pipe_types.specs.Exact.{exact_steps}
use Rattle.pipe_steps.specs.Tables.{joins_of, tables_seen}
use Rattle.open_blocks.specs.Files.{files_at, files_seen}
use Rattle.read_rounds.specs.Told.{blocks_at}
use Rattle.read_rounds.specs.Given.{StepsSeen}
use Rattle.pipe_flows.proofs.FlowLaws.{parts_as}
use Rattle.pipe_flows.proofs.ReceiptLaws.{receipt_as}
use Rattle.pipe_flows.proofs.counted.read_counted.Goals as goal

pub read_named-requires-clause-open : goal.read_named-requires-clause-open
read_named-requires-clause-open g c κs within = c.requires.open

pub add_receipt-requires : goal.add_receipt-requires
add_receipt-requires g c = record { balanced = c.in_ok-round.ensures.balanced }

pub returns-clause-stored : goal.returns-clause-stored
returns-clause-stored g c = subst (λ (way : StepsSeen). c.in_ok-stored.stored.items ≡ through exact_steps (joins_of way.tables) way.steps way.types) c.pipe.view_is c.in_ok-stored.ensures

pub returns-clause-parts : goal.returns-clause-parts
returns-clause-parts g c =
    let pipe = c.args.pipe.now in
    let types = c.in_ok-stored.stored.items in
    let same : types ≡ through exact_steps (joins_of pipe.tables) pipe.steps pipe.types = subst (λ (way : StepsSeen). types ≡ through exact_steps (joins_of way.tables) way.steps way.types) c.pipe.view_is c.in_ok-stored.ensures in
    let r = c.in_ok-round.ensures.parts in
    (r.0, r.1, parts_as pipe.breaker (through exact_steps (joins_of pipe.tables) pipe.steps pipe.types) types (through row_steps (tables_seen pipe.tables) pipe.steps r.0) c.in_ok-round.round.parts.items same r.2)

pub returns-clause-receipts : goal.returns-clause-receipts
returns-clause-receipts g c =
    let round = c.in_ok-round in
    let count = blocks_at (files_at c.args.relation (map (files_seen g.R.Reader.bytes) c.args.files.now.items)) in
    receipt_as c.args.crew.now.workers (vec_len round.round.receipts) c.args.relation round.round.batches count c.args.receipts.now.items c.add_receipt.new.receipts.items round.ensures.workers round.ensures.batches c.in_ok-add_receipt.ensures.added

pub returns-clause-reads : goal.returns-clause-reads
returns-clause-reads g c = c.in_ok-round.ensures.reads
