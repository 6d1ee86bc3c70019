use Rattle.std.proofs.Common.{◌≡◌, [], refl}
use Rattle.std.specs.List.{flat_map, range_with_len}
use Rattle.std.proofs.lemmas.Result.{IfOk-weaker}
use Rattle.sub_types.specs.Rows.{picked}
use Rattle.sub_types.specs.Stream.{rows_alone}
use Rattle.batch.specs.BatchRows.{rows_of}
use Rattle.plan_pipes.specs.RowMeaning.{sorted_by}
use Rattle.sort_merge.proofs.RowLaws.{places_within, picked_sorted}
use Rattle.sort_merge.proofs.runs.batches_in_order.Goals as goal

pub gather_in_parts-requires : goal.gather_in_parts-requires
gather_in_parts-requires c =
    let whole = c.args.whole.now in
    rw c.deref.ensures.value (places_within c.args.keys.now whole (range_with_len 0 whole.rows) c.in_ok-places.places.items refl c.in_ok-places.ensures.arrangement)

pub returns-clause-rows : goal.returns-clause-rows
returns-clause-rows c =
    let whole = c.args.whole.now in
    let at = c.deref.result.now in
    IfOk-weaker c.gather_in_parts.result (λ batches. flat_map rows_of batches.items ≡ picked [] at (rows_of whole)) (λ batches. rows_alone (flat_map rows_of batches.items) ≡ sorted_by c.args.keys.now (rows_alone (rows_of whole))) (λ batches given.
    picked_sorted c.args.keys.now whole (range_with_len 0 whole.rows) c.in_ok-places.places.items at (flat_map rows_of batches.items) refl c.in_ok-places.ensures.arrangement c.deref.ensures.value given) c.gather_in_parts.ensures.rows
