use Rattle.std.proofs.Common.{◌≡◌, ℕ, None, subst, map}
use Rattle.std.specs.List.{AllZip}
use Rattle.crew_tables.specs.Receipts.{IsReceiptOf}
use Rattle.plan_tables.specs.Open.{open_seen}
use Rattle.run_words.specs.ReadingSeen.{reading_seen}
use Rattle.run_accepted.specs.Done.{done_over, input_of}
use Rattle.run_accepted.specs.Fits.{FitsFiles}
use Rattle.run_accepted.proofs.AcceptedLaws.{accepted_typed, accepted_awaits}
use Rattle.run_accepted.proofs.run.run_opened.Goals as goal

pub gather_plan-requires-clause-typed : goal.gather_plan-requires-clause-typed
gather_plan-requires-clause-typed g c κs within = accepted_typed c.args.plan.now c.requires.accepted

pub gather_plan-requires-clause-awaited : goal.gather_plan-requires-clause-awaited
gather_plan-requires-clause-awaited g c κs within = accepted_awaits c.args.plan.now c.requires.accepted

pub run_gathered-requires-clause-denoted : goal.run_gathered-requires-clause-denoted
run_gathered-requires-clause-denoted g c κs within = (c.in-Ok.ensures.rows.tables, c.in-Ok.ensures.rows.denoted)

pub returns-in-Ok-clause-files : goal.returns-in-Ok-clause-files
returns-in-Ok-clause-files g c = λ told.
    let opened = map (open_seen g.F.R.Reader.bytes) c.args.opened.items in
    let receipts = subst (λ (workers : ℕ). c.in-Ok.all.end ≡ None → AllZip (IsReceiptOf workers) (map input_of opened) c.in-Ok.all.receipts.items) c.requires.workers c.in-Ok.ensures.receipts in
    let fits = c.run_gathered.ensures.files opened (c.in-Ok.ensures.rows.over told) receipts in
    subst (λ before. FitsFiles (done_over (reading_seen c.args.reading) c.args.plan.now opened) before (g.F.Folder.files c.run_gathered.new.folder) c.run_gathered.result) c.in-Ok.ensures.files fits
