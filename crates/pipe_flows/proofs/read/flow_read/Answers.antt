use Rattle.std.proofs.Common.{◌∙◌, ◌+◌, ◌/◌, List, [], Option, length, map, refl, sym, ap, subst}
use Rattle.std.specs.List.{AllByRecursion}
use Rattle.plan_typed.specs.declared.expr.Expr.{Expr}
use Rattle.plan_typed.specs.declared.rel.Source.TheVariants as sources
use Rattle.well_typed.specs.WellTyped.{IsRowOf, IsSourceOf}
use Rattle.plan_denote.specs.Eval.{eval}
use Rattle.plan_denote.specs.Read.{virtual_rows}
use Rattle.plan_pipes.specs.Run.{through}
use Rattle.pipe_types.specs.Exact.{exact_steps}
use Rattle.pipe_types.specs.Over.{AreStepsOver, IsBreakerOver}
use Rattle.pipe_steps.specs.Tables.{joins_of}
use Rattle.cut_laws.specs.Found.{ReadRel, types_read}
use Rattle.read_sources.specs.Seen.{read_seen}
use Rattle.open_blocks.specs.Files.{files_at, files_seen}
use Rattle.read_rounds.specs.Told.{blocks_at}
use Rattle.pipe_flows.specs.Inputs.{reads_seen}
use Rattle.pipe_flows.specs.Receipts.{batches_from}
use Rattle.read_rounds.specs.Bodies.{reads_made}
use Rattle.pipe_flows.proofs.BodyLaws.{found_reads}
use Rattle.pipe_flows.proofs.FlowLaws.{found_read, open_at, read_here}
use Rattle.pipe_flows.proofs.ReceiptLaws.{read_in, receipt_at}
use Rattle.pipe_flows.proofs.read.flow_read.Goals as goal

pub flow_named-requires-clause-open : goal.flow_named-requires-clause-open
flow_named-requires-clause-open g c κs within =
    open_at (map (files_seen g.R.Reader.bytes) c.args.files.now.items) c.args.relation (reads_seen c.args.reads.now) (read_seen c.in-Some.read) c.in-Some.ensures c.requires.files

pub flow_named-requires-clause-over : goal.flow_named-requires-clause-over
flow_named-requires-clause-over g c κs within = subst (λ (found : Option ReadRel). AreStepsOver (joins_of c.args.tables.now) (types_read found) c.args.steps.now) (sym c.in-Some.ensures) c.requires.over

pub flow_named-requires-clause-breaker : goal.flow_named-requires-clause-breaker
flow_named-requires-clause-breaker g c κs within =
    subst (λ (found : Option ReadRel). IsBreakerOver (through exact_steps (joins_of c.args.tables.now) c.args.steps.now (types_read found)) c.args.breaker.now) (sym c.in-Some.ensures) c.requires.breaker

pub flow_virtual-requires-clause-breaker : goal.flow_virtual-requires-clause-breaker
flow_virtual-requires-clause-breaker g c κs within =
    subst (λ (found : Option ReadRel). IsBreakerOver (through exact_steps (joins_of c.args.tables.now) c.args.steps.now (types_read found)) c.args.breaker.now) (sym c.in-Some.ensures) c.requires.breaker

pub flow_virtual-requires-clause-over : goal.flow_virtual-requires-clause-over
flow_virtual-requires-clause-over g c κs within = subst (λ (found : Option ReadRel). AreStepsOver (joins_of c.args.tables.now) (types_read found) c.args.steps.now) (sym c.in-Some.ensures) c.requires.over

pub flow_virtual-requires-clause-source : goal.flow_virtual-requires-clause-source
flow_virtual-requires-clause-source g c κs within =
    let types = c.in-Some.read.types.now in
    let found = found_read (reads_seen c.args.reads.now) c.args.relation (read_seen c.in-Some.read) c.requires.reads c.in-Some.ensures in
    let source : AllByRecursion (IsRowOf types) c.in-Rows.rows = subst (IsSourceOf types) c.in-Rows.is found.source in
    subst (AllByRecursion (IsRowOf types)) (sym c.as_slice.ensures) source

pub returns-in_ok-of_files-in-Named-clause-stored : goal.returns-in_ok-of_files-in-Named-clause-stored
returns-in_ok-of_files-in-Named-clause-stored g c = c.in_ok-of_files-in-Named.ensures.stored ∙ ap (through exact_steps (joins_of c.args.tables.now) c.args.steps.now) (ap types_read c.in-Some.ensures)

pub returns-in_ok-of_files-in-Named-clause-parts : goal.returns-in_ok-of_files-in-Named-clause-parts
returns-in_ok-of_files-in-Named-clause-parts g c =
    let files = map (files_seen g.R.Reader.bytes) c.args.files.now.items in
    let r = c.in_ok-of_files-in-Named.ensures.parts in
    (r.0, read_here files c.args.relation (reads_seen c.args.reads.now) (read_seen c.in-Some.read) _ r.0 c.in-Some.ensures c.in-Named.is r.1, r.2)

pub returns-in_ok-of_files-in-Named-clause-receipts : goal.returns-in_ok-of_files-in-Named-clause-receipts
returns-in_ok-of_files-in-Named-clause-receipts g c =
    let files = map (files_seen g.R.Reader.bytes) c.args.files.now.items in
    let reads = reads_seen c.args.reads.now in
    let n = c.args.relation in
    receipt_at c.args.crew.now.workers files reads n (blocks_at (files_at n files)) (read_in files n reads (read_seen c.in-Some.read) c.in-Some.ensures ∙ ap (batches_from files n) c.in-Named.is) c.args.receipts.now.items
    c.flow_named.new.receipts.items c.in_ok-of_files-in-Named.ensures.receipts

pub returns-in_ok-of_plan-in-Rows-clause-stored : goal.returns-in_ok-of_plan-in-Rows-clause-stored
returns-in_ok-of_plan-in-Rows-clause-stored g c = c.in_ok-of_plan-in-Rows.ensures.stored ∙ ap (through exact_steps (joins_of c.args.tables.now) c.args.steps.now) (ap types_read c.in-Some.ensures)

pub returns-in_ok-of_plan-in-Rows-clause-parts : goal.returns-in_ok-of_plan-in-Rows-clause-parts
returns-in_ok-of_plan-in-Rows-clause-parts g c =
    let files = map (files_seen g.R.Reader.bytes) c.args.files.now.items in
    let given = virtual_rows c.args.relation (map (map eval) c.as_slice.result.now) in (
      given,
      read_here files c.args.relation (reads_seen c.args.reads.now) (read_seen c.in-Some.read) (sources.Rows c.in-Rows.rows) given c.in-Some.ensures c.in-Rows.is (ap (λ (rows : List (List Expr)). virtual_rows c.args.relation (map (map eval) rows)) c.as_slice.ensures),
      c.in_ok-of_plan-in-Rows.ensures.parts,
    )

pub returns-in_ok-of_plan-in-Rows-clause-receipts : goal.returns-in_ok-of_plan-in-Rows-clause-receipts
returns-in_ok-of_plan-in-Rows-clause-receipts g c =
    let files = map (files_seen g.R.Reader.bytes) c.args.files.now.items in
    let reads = reads_seen c.args.reads.now in
    let n = c.args.relation in
    receipt_at c.args.crew.now.workers files reads n (batches_from [] n (sources.Rows c.as_slice.result.now))
    (read_in files n reads (read_seen c.in-Some.read) c.in-Some.ensures ∙ ap (batches_from files n) c.in-Rows.is ∙ ap (λ (rows : List (List Expr)). (length rows + 1023) / 1024) (sym c.as_slice.ensures)) c.args.receipts.now.items
    c.flow_virtual.new.receipts.items c.in_ok-of_plan-in-Rows.ensures.receipts

pub returns-in_ok-of_files-in-Named-clause-reads : goal.returns-in_ok-of_files-in-Named-clause-reads
returns-in_ok-of_files-in-Named-clause-reads g c =
    let files = map (files_seen g.R.Reader.bytes) c.args.files.now.items in
    found_reads files c.args.relation (reads_seen c.args.reads.now) (read_seen c.in-Some.read) _ (reads_made g.R.Reader.reads c.args.files.now.items) (reads_made g.R.Reader.reads c.flow_named.new.files.items) c.in-Some.ensures c.in-Named.is
    c.in_ok-of_files-in-Named.ensures.reads

pub returns-in_ok-of_plan-in-Rows-clause-reads : goal.returns-in_ok-of_plan-in-Rows-clause-reads
returns-in_ok-of_plan-in-Rows-clause-reads g c =
    let files = map (files_seen g.R.Reader.bytes) c.args.files.now.items in
    let made = reads_made g.R.Reader.reads c.args.files.now.items in
    found_reads files c.args.relation (reads_seen c.args.reads.now) (read_seen c.in-Some.read) (sources.Rows c.in-Rows.rows) made made c.in-Some.ensures c.in-Rows.is refl
