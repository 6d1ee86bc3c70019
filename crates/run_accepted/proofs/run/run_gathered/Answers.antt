use Rattle.std.proofs.Common.{◌∙◌, ap, inl, sym, subst, refl, map}
use Rattle.std.specs.List.{flat_map}
use Rattle.sub_types.specs.Stream.{Stream}
use Rattle.batch.specs.BatchRows.{rows_of}
use Rattle.plan_denote.specs.Rows.{Row}
use Rattle.run_words.specs.ReadingSeen.{reading_seen}
use Rattle.gather_plans.specs.Over.{gathered_stream}
use Rattle.run_accepted.specs.Done.{done_with, input_of}
use Rattle.run_accepted.specs.Fits.{FitsFiles}
use Rattle.run_accepted.proofs.AcceptedLaws.{accepted_few, accepted_names}
use Rattle.run_accepted.proofs.DoneLaws.{over_fault, over_rows}
use Rattle.run_accepted.proofs.run.run_gathered.Goals as goal

pub returns-in-Some-clause-files : goal.returns-in-Some-clause-files
returns-in-Some-clause-files g c = λ opened is zip.
    (over_fault (reading_seen c.args.reading) c.args.plan.now opened (gathered_stream c.args.all) is c.in-Some.fault c.in-Some.is, refl)

pub returns-in-Some-clause-named : goal.returns-in-Some-clause-named
returns-in-Some-clause-named g c = inl (c.requires.denoted.0, sym (ap (λ (s : Stream Row). s.end) c.requires.denoted.1) ∙ c.in-Some.is)

pub write_batches-requires-clause-same : goal.write_batches-requires-clause-same
write_batches-requires-clause-same g c κs within = accepted_names c.args.plan.now c.requires.accepted

pub write_batches-requires-clause-few : goal.write_batches-requires-clause-few
write_batches-requires-clause-few g c κs within = accepted_few c.args.plan.now c.requires.accepted

pub returns-clause-files : goal.returns-clause-files
returns-clause-files g c = λ opened is zip.
    let reading = reading_seen c.args.reading in
    let plan = c.args.plan.now in
    let done =
    over_rows reading plan opened (gathered_stream c.args.all) is c.in_default.is
    ∙ ap (λ batches. done_with reading plan (map input_of opened) (flat_map rows_of batches)) (sym c.deref.ensures.value) in
    subst (λ denoted. FitsFiles denoted (g.F.Folder.files c.args.folder.now) (g.F.Folder.files c.write_batches.new.folder) c.write_batches.result) (sym done) (c.write_batches.ensures.files (map input_of opened) (zip c.in_default.is))
