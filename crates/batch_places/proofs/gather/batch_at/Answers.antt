use Rattle.std.proofs.Common.{◌≡◌, ◌<◌, length, map, sym, arith}
use Rattle.std.proofs.lemmas.List.{length-map}
use Rattle.batch.specs.BatchRows.{types_of}
use Rattle.batch.specs.Column.{column_type}
use Rattle.batch_places.specs.Places.{row_there}
use Rattle.batch_places.proofs.GatherLaws.{Gathered-more, Gathered-sized, Gathered-rows, Gathered-types, wide_all}
use Rattle.batch_places.proofs.gather.batch_at.Goals as goal

pub loop-index-preserved : goal.loop-index-preserved
loop-index-preserved c =
    let types = types_of c.args.first.now in
    let rows = map (row_there c.args.runs.now) c.args.places.now in
    let below : c.loop-index.index < length types = omega (arith, c.loop-index-test.true, length-map c.args.first.now.columns.items column_type) in
    rw c.in_ok-push.ensures.items (Gathered-more types rows c.loop-index.columns.items c.loop-index.index c.in_ok-column_at.field-0 below c.in_ok-column_at.ensures.values c.in_ok-column_at.ensures.ty c.loop-index.invariant)

pub invariant_of-result : goal.invariant_of-result
invariant_of-result c =
    let types = types_of c.args.first.now in
    let rows = map (row_there c.args.runs.now) c.args.places.now in
    record { sized = Gathered-sized types rows c.loop-index.columns.items c.loop-index.index (length c.args.places.now) (sym (length-map c.args.places.now (row_there c.args.runs.now))) c.loop-index.invariant }

pub returns-clause-rows : goal.returns-clause-rows
returns-clause-rows c =
    let types = types_of c.args.first.now in
    let rows = map (row_there c.args.runs.now) c.args.places.now in
    let done : c.loop-index.index ≡ length types = omega (arith, length-map c.args.first.now.columns.items column_type) in
    Gathered-rows types rows c.loop-index.columns.items c.loop-index.index (length c.args.places.now) done (sym (length-map c.args.places.now (row_there c.args.runs.now)))
    (wide_all c.args.runs.now types c.args.places.now c.requires.alike c.requires.there) c.loop-index.invariant

pub returns-clause-types : goal.returns-clause-types
returns-clause-types c =
    let types = types_of c.args.first.now in
    let rows = map (row_there c.args.runs.now) c.args.places.now in
    let done : c.loop-index.index ≡ length types = omega (arith, length-map c.args.first.now.columns.items column_type) in
    Gathered-types types rows c.loop-index.columns.items c.loop-index.index done c.loop-index.invariant
