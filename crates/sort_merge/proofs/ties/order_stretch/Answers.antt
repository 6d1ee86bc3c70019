use Rattle.std.proofs.Common.{rules, ℕ, Bool, is_lt}
use Rattle.std.proofs.lemmas.Fn.{always_returns_same}
use Rattle.std.proofs.lemmas.List.Sorted.{ranks_by}
use Rattle.batch_places.specs.BatchRow.{has_row, row_at}
use Rattle.sort_merge.specs.Prefix.{prefixed_cmp}
use Rattle.sort_merge.proofs.TieLaws.{cmp_total, stretch_put}
use Rattle.sort_merge.proofs.ties.order_stretch.Goals as goal

pub returns-clause-rows : goal.returns-clause-rows
returns-clause-rows c =
    let keys = c.args.keys.now in
    let batch = c.args.batch.now in
    let lt : ℕ → ℕ → Bool = λ a b. is_lt (prefixed_cmp keys (has_row batch) (row_at batch) a b) in
    let weak = ranks_by (cmp_total keys (has_row batch) (row_at batch)) (λ (one : ℕ). one) in
    stretch_put keys (has_row batch) (row_at batch) c.args.rows.now c.sort_by.new.self c.args.from c.args.to c.requires.longer c.requires.within
    (record {
      sorted = c.in_ok-sort_by.ensures.sorted lt weak (always_returns_same _ _ _ (λ a r f k. search rules));
      stable = c.sort_by.ensures.stable lt weak (always_returns_same _ _ _ (λ a r f k. search rules));
    })
