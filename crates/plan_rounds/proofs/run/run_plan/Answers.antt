use Rattle.std.proofs.Common.{◌≡◌, List, map, sym, ap, subst}
use Rattle.std.specs.List.{All}
use Rattle.sub_types.specs.declared.kind.Ty.{Ty}
use Rattle.batch.specs.BatchRows.{types_of}
use Rattle.plan_denote.specs.Holes.{filled}
use Rattle.denote_typed.proofs.FillRelLaws.{same_columns}
use Rattle.cut_laws.specs.Found.{read_rels}
use Rattle.cut_laws.specs.Reads.{reads_of}
use Rattle.open_blocks.specs.Files.{FilesSeen, files_seen}
use Rattle.open_blocks.specs.Taken.{Adds}
use Rattle.piece_batches.specs.Ended.{ended_stream}
use Rattle.table_engine.specs.Inputs.{IsReceiptAt}
use Rattle.plan_rows.specs.Seen.{all_seen}
use Rattle.sub_query.specs.declared.worth.KnownWorth.{KnownWorth}
use Rattle.sub_query.specs.Known.{known_seen}
use Rattle.plan_rounds.specs.Inputs.{AreRowsOf}
use Rattle.plan_rounds.specs.Ready.{IsReady}
use Rattle.plan_rounds.proofs.SoFarLaws.{main_ready, plan_fault, plan_receipts, plan_rows}
use Rattle.plan_rounds.proofs.run.run_plan.Goals as goal

pub rows_filled-requires-clause-ready : goal.rows_filled-requires-clause-ready
rows_filled-requires-clause-ready g c κs within =
    let files = map (files_seen g.R.Reader.bytes) c.args.files.now.items in
    let plan = c.args.plan.now in
    let ready = main_ready c.args.crew.now.workers files plan c.requires.typed (known_seen c.in-Ok.known.items) c.in_ok-known.field-0 c.worths_of.new.receipts.items (ap all_seen (sym c.in-Ok.is)) c.in_ok-known.ensures.worths in
    subst (λ (all : List FilesSeen). IsReady (filled (known_seen c.deref.result.now) plan.typed.rel) all) (sym c.in_ok-known.ensures.seen)
    (subst (λ (all : List KnownWorth). IsReady (filled (known_seen all) plan.typed.rel) files) (sym c.deref.ensures.value) ready)

pub returns-in_ok-put_in_order-in-Ok-clause-rows : goal.returns-in_ok-put_in_order-in-Ok-clause-rows
returns-in_ok-put_in_order-in-Ok-clause-rows g c =
    let files = map (files_seen g.R.Reader.bytes) c.args.files.now.items in
    let plan = c.args.plan.now in
    let first = subst (λ (all : List FilesSeen). AreRowsOf all (filled (known_seen c.deref.result.now) plan.typed.rel) (ended_stream c.in_ok-all-in-Ok.all)) c.in_ok-known.ensures.seen c.in_ok-all-in-Ok.ensures.rows in
    let rows = subst (λ (all : List KnownWorth). AreRowsOf files (filled (known_seen all) plan.typed.rel) (ended_stream c.in_ok-all-in-Ok.all)) c.deref.ensures.value first in
    plan_rows c.args.crew.now.workers files plan c.requires.typed (known_seen c.in-Ok.known.items) c.in_ok-known.field-0 c.worths_of.new.receipts.items (ended_stream c.in_ok-all-in-Ok.all) (ap all_seen (sym c.in-Ok.is)) c.in_ok-known.ensures.worths rows

pub returns-in_ok-put_in_order-in-Ok-clause-types : goal.returns-in_ok-put_in_order-in-Ok-clause-types
returns-in_ok-put_in_order-in-Ok-clause-types g c =
    subst (λ (columns : List Ty). All (λ batch. types_of batch ≡ columns) c.in_ok-all-in-Ok.all.batches.items) (same_columns (known_seen c.deref.result.now) c.args.plan.now.typed.rel) c.in_ok-all-in-Ok.ensures.types

pub returns-in_ok-put_in_order-in-Ok-clause-receipts : goal.returns-in_ok-put_in_order-in-Ok-clause-receipts
returns-in_ok-put_in_order-in-Ok-clause-receipts g c = λ _.
    let workers = c.args.crew.now.workers in
    let files = map (files_seen g.R.Reader.bytes) c.args.files.now.items in
    let plan = c.args.plan.now in
    let old = c.worths_of.new.receipts.items in
    let new = c.rows_filled.new.receipts.items in
    let rel = plan.typed.rel in
    let adds =
    subst (λ (all : List KnownWorth). Adds (IsReceiptAt workers files (read_rels (filled (known_seen all) rel))) (reads_of (filled (known_seen all) rel)) old new) c.deref.ensures.value
    (subst (λ (all : List FilesSeen). Adds (IsReceiptAt workers all (read_rels (filled (known_seen c.deref.result.now) rel))) (reads_of (filled (known_seen c.deref.result.now) rel)) old new) c.in_ok-known.ensures.seen c.in_ok-all-in-Ok.ensures.receipts) in
    plan_receipts workers files plan c.requires.typed (known_seen c.in-Ok.known.items) c.in_ok-known.field-0 old new c.put_in_order.new.receipts.items (ap all_seen (sym c.in-Ok.is)) c.in_ok-known.ensures.worths adds c.in_ok-put_in_order-in-Ok.ensures

pub returns-in-Err-clause-rows : goal.returns-in-Err-clause-rows
returns-in-Err-clause-rows g c =
    rw c.new.ensures.items
    (plan_fault c.args.crew.now.workers (map (files_seen g.R.Reader.bytes) c.args.files.now.items) c.args.plan.now c.requires.typed c.in-Err.fault c.in_ok-known.field-0 c.worths_of.new.receipts.items (ap all_seen (sym c.in-Err.is)) c.in_ok-known.ensures.worths)
