use Rattle.std.proofs.Common.{◌≡◌, ◌∙◌, map, ap}
use Rattle.std.specs.List.{flat_map}
use Rattle.std.proofs.lemmas.Result.{IfOk-weaker}
use Rattle.sub_types.specs.Stream.{rows_alone}
use Rattle.batch.specs.BatchRows.{rows_of}
use Rattle.batch_places.specs.Places.{row_there}
use Rattle.plan_pipes.specs.RowMeaning.{sorted_by}
use Rattle.sort_merge.proofs.PlaceLaws.{ordered_there, interleaved}
use Rattle.sort_merge.proofs.runs.interleave_places.Goals as goal

pub batches_at-requires-clause-there : goal.batches_at-requires-clause-there
batches_at-requires-clause-there c =
    rw c.deref.ensures.value (ordered_there c.args.keys.now c.args.runs.now c.in_ok-places.places.items c.put_in_order.new.places.items c.in_ok-places.ensures.there c.in_ok-put_in_order.ensures)

pub returns-clause-rows : goal.returns-clause-rows
returns-clause-rows c =
    let keys = c.args.keys.now in
    let runs = c.args.runs.now in
    IfOk-weaker c.batches_at.result (λ batches. flat_map rows_of batches.items ≡ map (row_there runs) c.deref.result.now) (λ batches. rows_alone (flat_map rows_of batches.items) ≡ sorted_by keys (rows_alone (flat_map rows_of runs))) (λ batches given.
    interleaved keys runs c.in_ok-places.places.items c.put_in_order.new.places.items (flat_map rows_of batches.items) c.in_ok-places.ensures.rows c.in_ok-places.ensures.there c.in_ok-put_in_order.ensures (given ∙ ap (map (row_there runs)) c.deref.ensures.value)) c.batches_at.ensures.rows
