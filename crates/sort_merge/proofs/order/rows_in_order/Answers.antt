use Rattle.std.proofs.Common.{◌≡◌, ◌∙◌, ℕ, List, ap, sym, subst, length, map}
use Rattle.std.specs.List.{range_with_len}
use Rattle.std.specs.List.Sorted.{IsNonDecreasingBy}
use Rattle.std.proofs.lemmas.List.{with_items_is}
use Rattle.std.proofs.lemmas.List.Sorted.{length_permutation}
use Rattle.std.proofs.lemmas.List.FromFn.{length-map-range_with_len}
use Rattle.plan_denote.specs.Sort.{IsArrangement}
use Rattle.batch_places.specs.BatchRow.{has_row, row_at}
use Rattle.sort_merge.specs.Prefix.{prefix_of, prefixed_at, prefixed_cmp}
use Rattle.sort_merge.proofs.RisingLaws.{arranged_twice}
use Rattle.sort_merge.proofs.TieLaws.{rising_prefixes}
use Rattle.sort_merge.proofs.order.rows_in_order.Goals as goal

pub order_ties-requires-clause-rising : goal.order_ties-requires-clause-rising
order_ties-requires-clause-rising c =
    subst (IsNonDecreasingBy prefix_of) (sym c.deref_mut.ensures.value) (rising_prefixes c.sort.new.self.items c.in_ok-sort.ensures.sorted)

pub returns-clause-arrangement : goal.returns-clause-arrangement
returns-clause-arrangement c =
    let keys = c.args.keys.now in
    let batch = c.args.batch.now in
    let cmp = prefixed_cmp keys (has_row batch) (row_at batch) in
    let rows = map (prefixed_at c.args.scale.now keys batch) (range_with_len 0 batch.rows) in
    let numbered = c.sort.new.self in
    let new = c.order_ties.new.rows in
    let tied : IsArrangement cmp numbered.items new = subst (λ (xs : List ℕ). IsArrangement cmp xs new) c.deref_mut.ensures.value c.in_ok-order_ties.ensures.arrangement in
    let long : length new ≡ numbered.len = c.in_ok-order_ties.ensures.count ∙ ap length c.deref_mut.ensures.value ∙ sym numbered.ok.0 in
    subst (IsArrangement cmp rows) (sym (with_items_is numbered new long))
    (arranged_twice c.args.scale.now keys batch c.requires.few c.in_ok-rows.rows.items numbered.items new c.in_ok-rows.ensures
    (record { sorted = c.in_ok-sort.ensures.sorted; stable = c.sort.ensures.stable }) tied.sorted tied.stable)

pub returns-clause-count : goal.returns-clause-count
returns-clause-count c =
    let each = prefixed_at c.args.scale.now c.args.keys.now c.args.batch.now in
    let numbered = c.sort.new.self in
    let new = c.order_ties.new.rows in
    let same : length new ≡ length numbered.items = c.in_ok-order_ties.ensures.count ∙ ap length c.deref_mut.ensures.value in
    ap length (with_items_is numbered new (same ∙ sym numbered.ok.0))
    ∙ same
    ∙ length_permutation c.in_ok-rows.rows.items numbered.items c.sort.ensures.permutation
    ∙ ap length c.in_ok-rows.ensures ∙ length-map-range_with_len each 0 c.args.batch.now.rows
