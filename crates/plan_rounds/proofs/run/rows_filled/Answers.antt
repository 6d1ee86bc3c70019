use Rattle.std.proofs.Common.{◌≡◌, map, sym, subst}
use Rattle.std.specs.List.{All}
use Rattle.batch.specs.BatchRows.{types_of}
use Rattle.plan_typed.specs.declared.rel.Rel.{Rel}
use Rattle.plan_typed.specs.Numbers.{numbers_of}
use Rattle.plan_typed.specs.Types.{columns_of}
use Rattle.well_typed.specs.WellTyped.{AreTyped, AllDiffer}
use Rattle.cut_laws.specs.Found.{read_rels}
use Rattle.cut_laws.specs.Reads.{reads_of}
use Rattle.open_blocks.specs.Files.{files_seen}
use Rattle.open_blocks.specs.Taken.{Adds}
use Rattle.table_engine.specs.Inputs.{IsOpenFor, IsReceiptAt, gathered_stream}
use Rattle.plan_rounds.specs.Inputs.{AreRowsOf}
use Rattle.plan_rounds.proofs.run.rows_filled.Goals as goal

pub run_tree-requires-clause-workers : goal.run_tree-requires-clause-workers
run_tree-requires-clause-workers g c κs within = c.args.crew.now.few

pub run_tree-requires-clause-typed : goal.run_tree-requires-clause-typed
run_tree-requires-clause-typed g c κs within = subst AreTyped (sym c.in_ok-filled.ensures) c.requires.ready.typed

pub run_tree-requires-clause-numbers : goal.run_tree-requires-clause-numbers
run_tree-requires-clause-numbers g c κs within = subst (λ (rel : Rel). AllDiffer (numbers_of rel)) (sym c.in_ok-filled.ensures) c.requires.ready.numbers

pub run_tree-requires-clause-files : goal.run_tree-requires-clause-files
run_tree-requires-clause-files g c κs within =
    subst (λ (rel : Rel). All (IsOpenFor (read_rels rel)) (map (files_seen g.R.Reader.bytes) c.args.files.now.items)) (sym c.in_ok-filled.ensures) c.requires.ready.opened

pub returns-clause-rows : goal.returns-clause-rows
returns-clause-rows g c =
    let all = c.in_ok-all.ensures in
    subst (λ (rel : Rel). AreRowsOf (map (files_seen g.R.Reader.bytes) c.args.files.now.items) rel (gathered_stream c.in_ok-all.all)) c.in_ok-filled.ensures
    (record { tables = all.rows.0; told = all.rows.1; denoted = all.rows.2; fit = all.fit })

pub returns-clause-types : goal.returns-clause-types
returns-clause-types g c = subst (λ (rel : Rel). All (λ batch. types_of batch ≡ columns_of rel) c.in_ok-all.all.batches.items) c.in_ok-filled.ensures c.in_ok-all.ensures.types

pub returns-clause-receipts : goal.returns-clause-receipts
returns-clause-receipts g c =
    let files = map (files_seen g.R.Reader.bytes) c.args.files.now.items in
    subst (λ (rel : Rel). Adds (IsReceiptAt c.args.crew.now.workers files (read_rels rel)) (reads_of rel) c.args.receipts.now.items c.append.new.self.items) c.in_ok-filled.ensures
    (record { more = c.in_ok-all.all.receipts.items; added = c.in_ok-append.ensures.items; each_is = c.in_ok-all.ensures.receipts })
