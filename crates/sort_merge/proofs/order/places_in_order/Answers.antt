use Rattle.std.proofs.Common.{rules, ◌∙◌, ℕ, Bool, is_lt, ap, length}
use Rattle.std.proofs.lemmas.List.Sorted.{ranks_by, length_permutation}
use Rattle.std.proofs.lemmas.List.FromFn.{length-range_with_len}
use Rattle.std.proofs.lemmas.Fn.{always_returns_same}
use Rattle.batch_places.specs.BatchRow.{has_row, row_at}
use Rattle.sort_merge.specs.RowOrder.{place_cmp}
use Rattle.sort_merge.proofs.OrderLaws.{place_total}
use Rattle.sort_merge.proofs.RisingLaws.{arranged_from}
use Rattle.sort_merge.proofs.order.places_in_order.Goals as goal

pub returns-clause-arrangement : goal.returns-clause-arrangement
returns-clause-arrangement c =
    let keys = c.args.keys.now in
    let batch = c.args.batch.now in
    let cmp = place_cmp keys (has_row batch) (row_at batch) in
    let lt : ℕ → ℕ → Bool = λ a b. is_lt (cmp a b) in
    let weak = ranks_by (place_total keys (has_row batch) (row_at batch)) (λ (one : ℕ). one) in
    arranged_from cmp c.in_ok-places.places.items c.sort_by.new.self.items batch.rows c.in_ok-places.ensures
    (c.in_ok-sort_by.ensures.sorted lt weak (always_returns_same _ _ _ (λ a r f k. search rules)))
    (c.sort_by.ensures.stable lt weak (always_returns_same _ _ _ (λ a r f k. search rules)))

pub returns-clause-count : goal.returns-clause-count
returns-clause-count c =
    length_permutation c.in_ok-places.places.items c.sort_by.new.self.items c.sort_by.ensures.permutation
    ∙ ap length c.in_ok-places.ensures ∙ length-range_with_len 0 c.args.batch.now.rows
