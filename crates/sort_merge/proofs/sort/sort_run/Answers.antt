use Rattle.std.proofs.Common.{◌≡◌, ◌∙◌, [], refl, ap, length}
use Rattle.std.specs.List.{range_with_len}
use Rattle.std.proofs.lemmas.Result.{IfOk-weaker}
use Rattle.sub_types.specs.Rows.{picked}
use Rattle.sub_types.specs.Stream.{rows_alone}
use Rattle.batch.specs.BatchRows.{rows_of}
use Rattle.plan_pipes.specs.RowMeaning.{sorted_by}
use Rattle.sort_merge.proofs.RowLaws.{places_within, picked_sorted}
use Rattle.sort_merge.proofs.sort.sort_run.Goals as goal

pub gather-requires : goal.gather-requires
gather-requires c =
    rw c.deref.ensures.value (places_within c.args.keys.now c.args.batch (range_with_len 0 c.args.batch.rows) c.in_ok-places.places.items refl c.in_ok-places.ensures.arrangement)

pub returns-clause-rows : goal.returns-clause-rows
returns-clause-rows c =
    let batch = c.args.batch in
    let at = c.deref.result.now in
    IfOk-weaker c.gather.result (λ sorted. rows_of sorted ≡ picked [] at (rows_of batch)) (λ sorted. rows_alone (rows_of sorted) ≡ sorted_by c.args.keys.now (rows_alone (rows_of batch))) (λ sorted rows.
    picked_sorted c.args.keys.now batch (range_with_len 0 batch.rows) c.in_ok-places.places.items at (rows_of sorted) refl c.in_ok-places.ensures.arrangement c.deref.ensures.value rows) c.gather.ensures.rows

pub returns-clause-count : goal.returns-clause-count
returns-clause-count c =
    IfOk-weaker c.gather.result (λ sorted. sorted.rows ≡ length c.deref.result.now) (λ sorted. sorted.rows ≡ c.args.batch.rows) (λ sorted count.
    count ∙ ap length c.deref.ensures.value ∙ c.in_ok-places.ensures.count) c.gather.ensures.count
