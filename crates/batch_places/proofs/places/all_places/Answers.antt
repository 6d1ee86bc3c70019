use Rattle.std.proofs.Common.{get_or, arith}
use Rattle.std.proofs.lemmas.Option.{slice_get-get_or}
use Rattle.batch_places.proofs.PlaceLaws.{HoldRuns-none, HoldRuns-more, HoldRuns-all}
use Rattle.batch_places.proofs.places.all_places.Goals as goal

pub loop-run-init : goal.loop-run-init
loop-run-init c = HoldRuns-none c.args.runs.now c.new-places.result.items c.new-places.ensures.items

pub loop-run-preserved : goal.loop-run-preserved
loop-run-preserved c =
    let runs = c.args.runs.now in
    let i = c.loop-run.run in
    let run = get_or runs i c.index-runs-run.result in
    HoldRuns-more runs i run c.loop-run.places.items c.add_places.new.places.items c.loop-run-test.true (slice_get-get_or runs i c.index-runs-run.result c.loop-run-test.true) c.in_ok-add_places.ensures c.loop-run.invariant

pub returns : goal.returns
returns c = record { rows = HoldRuns-all c.args.runs.now c.loop-run.run c.loop-run.places.items (omega arith) c.loop-run.invariant; there = c.loop-run.invariant.there }
