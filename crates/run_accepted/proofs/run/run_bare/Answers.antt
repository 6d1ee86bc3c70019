use Rattle.std.proofs.Common.{◌∙◌, ℕ, ap, subst, map}
use Rattle.std.specs.List.{AllZip}
use Rattle.std.proofs.lemmas.Simd.{map-map}
use Rattle.crew_tables.specs.Receipts.{IsReceiptOf}
use Rattle.plan_tables.specs.Open.{open_seen}
use Rattle.row_engine.specs.Tables.{tables_seen}
use Rattle.run_words.specs.ReadingSeen.{reading_seen}
use Rattle.run_accepted.specs.Done.{done_over, input_of}
use Rattle.run_accepted.specs.Fits.{FitsFiles}
use Rattle.run_accepted.proofs.ReceiptLaws.{receipts_seen}
use Rattle.run_accepted.proofs.run.run_bare.Goals as goal

pub returns-in-Ok-clause-files : goal.returns-in-Ok-clause-files
returns-in-Ok-clause-files g c = λ told.
    let bytes = g.F.R.Reader.bytes in
    let all = c.args.opened.items in
    let opened = map (open_seen bytes) all in
    let reads = map-map _ _ all ∙ c.requires.reads in
    let receipts = subst (λ (workers : ℕ). AllZip (IsReceiptOf workers) (map input_of opened) c.in-Ok.all.receipts.items) c.requires.workers (receipts_seen bytes c.args.crew.now.workers all c.in-Ok.all.receipts.items c.in-Ok.ensures.receipts) in
    let fits = c.run_tables.ensures.files opened reads (λ relation. ap (λ tables. tables_seen tables relation) c.deref.ensures.value ∙ c.in-Ok.ensures.tables told relation) receipts in
    subst (λ before. FitsFiles (done_over (reading_seen c.args.reading) c.args.plan.now opened) before (g.F.Folder.files c.run_tables.new.folder) c.run_tables.result) c.in-Ok.ensures.files fits
