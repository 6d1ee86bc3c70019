use Rattle.std.proofs.Common.{rules, Bool, is_lt}
use Rattle.std.proofs.lemmas.List.Sorted.{ranks_by}
use Rattle.std.proofs.lemmas.Fn.{always_returns_same}
use Rattle.batch_places.specs.declared.places.Place.{Place}
use Rattle.batch_places.specs.Places.{is_there, row_there}
use Rattle.sort_merge.specs.RowOrder.{place_cmp}
use Rattle.sort_merge.proofs.OrderLaws.{place_total}
use Rattle.sort_merge.proofs.runs.put_in_order.Goals as goal

pub returns : goal.returns
returns c =
    let keys = c.args.keys.now in
    let runs = c.args.runs.now in
    let lt : Place → Place → Bool = λ a b. is_lt (place_cmp keys (is_there runs) (row_there runs) a b) in
    let weak = ranks_by (place_total keys (is_there runs) (row_there runs)) (λ (place : Place). place) in
    record {
      sorted = c.in_ok-sort_by.ensures.sorted lt weak (always_returns_same _ _ _ (λ a r f k. search rules));
      stable = c.sort_by.ensures.stable lt weak (always_returns_same _ _ _ (λ a r f k. search rules));
    }
