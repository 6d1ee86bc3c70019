use Rattle.std.proofs.Common.{◌∙◌, Some, length, get_or, refl, sym, ap}
use Rattle.std.proofs.lemmas.Option.{slice_get_read}
use Rattle.batch_places.specs.declared.places.Place.{Place}
use Rattle.batch_places.proofs.GatherLaws.{column_more}
use Rattle.batch_places.proofs.PlaceLaws.{run_there}
use Rattle.batch_places.proofs.gather.column_at.Goals as goal

pub loop-place-preserved : goal.loop-place-preserved
loop-place-preserved c =
    let runs = c.args.runs.now in
    let places = c.args.places.now in
    let k = c.loop-place.place-index in
    let none : Place = record { run = 0; row = 0 } in
    let place = get_or places k none in
    let run = c.index-runs-place.result in
    let below = run_there runs place (c.requires.there k none c.loop-place-test.true) in (
      column_more runs places k c.args.index none run c.loop-place.builder.values c.add_value.new.builder.values c.loop-place-test.true
          (slice_get_read runs (length runs) place.run run refl below c.index-runs-place.is) c.in_ok-add_value.ensures.values c.loop-place.invariant.0,
      c.loop-place.invariant.1 ∙ ap (λ ty. Some ty) (sym c.add_value.ensures.ty),
    )
