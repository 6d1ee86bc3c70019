use Rattle.std.proofs.Common.{◌≡◌, ◌∙◌, map, ap, ap₂}
use Rattle.std.specs.List.{flat_map}
use Rattle.std.proofs.lemmas.Result.{IfOk-weaker}
use Rattle.batch.specs.BatchRows.{rows_of}
use Rattle.batch_places.specs.Places.{row_there}
use Rattle.plan_denote.specs.Sets.{row_at}
use Rattle.set_rels.specs.Keyed.{all_rows, place_at}
use Rattle.set_rels.proofs.KeyedLaws.{places_there, rows_there}
use Rattle.set_rels.proofs.keyed_rows.KeyedRows.batches_at.Goals as goal

pub batches_at-requires-clause-there : goal.batches_at-requires-clause-there
batches_at-requires-clause-there c =
    let me = c.args.self.now in
    let at : c.deref-4.result.now ≡ map (place_at me.places.items) c.args.rows.now =
    c.deref-4.ensures.value ∙ c.in_ok-places.ensures ∙ ap (λ places. map (place_at places) c.args.rows.now) c.deref-2.ensures.value in
    rw (c.deref-3.ensures.value, at) (places_there me.runs.items me.places.items c.args.rows.now (record { run = 0; row = 0 }) me.there c.requires.within)

pub returns-clause-rows : goal.returns-clause-rows
returns-clause-rows c =
    let me = c.args.self.now in
    let at : c.deref-4.result.now ≡ map (place_at me.places.items) c.args.rows.now =
    c.deref-4.ensures.value ∙ c.in_ok-places.ensures ∙ ap (λ places. map (place_at places) c.args.rows.now) c.deref-2.ensures.value in
    IfOk-weaker c.batches_at.result (λ batches. flat_map rows_of batches.items ≡ map (row_there c.deref-3.result.now) c.deref-4.result.now) (λ batches. all_rows batches.items ≡ map (row_at (all_rows me.runs.items)) c.args.rows.now) (λ batches is.
    is ∙ ap₂ (λ runs places. map (row_there runs) places) c.deref-3.ensures.value at
    ∙ rows_there me.runs.items me.places.items c.args.rows.now (record { run = 0; row = 0 }) me.placed c.requires.within) c.batches_at.ensures.rows
