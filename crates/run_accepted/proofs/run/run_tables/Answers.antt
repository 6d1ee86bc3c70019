use Rattle.std.proofs.Common.{◌∙◌, ap, sym, subst, refl, map}
use Rattle.std.specs.List.{flat_map}
use Rattle.batch.specs.BatchRows.{rows_of}
use Rattle.row_engine.specs.Tables.{table_stream}
use Rattle.run_words.specs.ReadingSeen.{reading_seen}
use Rattle.run_accepted.specs.Done.{done_with, input_of}
use Rattle.run_accepted.specs.Fits.{FitsFiles}
use Rattle.run_laws.proofs.RunLaws.{denote_in_memory}
use Rattle.run_accepted.proofs.AcceptedLaws.{accepted_few, accepted_names, accepted_typed}
use Rattle.run_accepted.proofs.DoneLaws.{over_fault, over_rows}
use Rattle.run_accepted.proofs.run.run_tables.Goals as goal

pub returns-in-Some-end-clause-files : goal.returns-in-Some-end-clause-files
returns-in-Some-end-clause-files g c = λ opened are same zip. (
  over_fault (reading_seen c.args.reading) c.args.plan.now opened (table_stream c.in-Some.table.now)
      (c.in-Some.ensures.rows ∙ denote_in_memory c.args.plan.now opened c.args.tables.now (accepted_typed c.args.plan.now c.requires.accepted) are same) c.in-Some-end.end c.in-Some-end.is,
  refl,
)

pub write_batches-requires-clause-same : goal.write_batches-requires-clause-same
write_batches-requires-clause-same g c κs within = accepted_names c.args.plan.now c.requires.accepted

pub write_batches-requires-clause-few : goal.write_batches-requires-clause-few
write_batches-requires-clause-few g c κs within = accepted_few c.args.plan.now c.requires.accepted

pub returns-clause-files : goal.returns-clause-files
returns-clause-files g c = λ opened are same zip.
    let reading = reading_seen c.args.reading in
    let plan = c.args.plan.now in
    let done =
    over_rows reading plan opened (table_stream c.in-Some.table.now) (c.in-Some.ensures.rows ∙ denote_in_memory plan opened c.args.tables.now (accepted_typed plan c.requires.accepted) are same) c.in_default-end.is
    ∙ ap (λ batches. done_with reading plan (map input_of opened) (flat_map rows_of batches)) (sym c.as_slice.ensures) in
    subst (λ denoted. FitsFiles denoted (g.F.Folder.files c.args.folder.now) (g.F.Folder.files c.write_batches.new.folder) c.write_batches.result) (sym done) (c.write_batches.ensures.files (map input_of opened) zip)
