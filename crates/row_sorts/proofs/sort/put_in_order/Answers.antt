use Rattle.std.proofs.Common.{rules, Bool, is_lt, map}
use Rattle.plan_denote.specs.Sort.{Keyed}
use Rattle.std.proofs.lemmas.List.Sorted.{ranks_by}
use Rattle.std.proofs.lemmas.Fn.{always_returns_same}
use Rattle.plan_denote.specs.Denote.{direction_of}
use Rattle.row_sorts.specs.Sorting.{by_key}
use Rattle.row_sorts.proofs.SortedLaws.{by_key_total}
use Rattle.row_sorts.proofs.sort.put_in_order.Goals as goal

pub returns : goal.returns
returns c =
    let directions = map direction_of c.args.keys.now in
    let lt : Keyed → Keyed → Bool = λ a b. is_lt (by_key directions a b) in
    let weak = ranks_by (by_key_total directions) (λ (one : Keyed). one) in
    record {
      sorted = c.in_ok-sort_by.ensures.sorted lt weak (always_returns_same _ _ _ (λ a r f k. search rules));
      stable = c.sort_by.ensures.stable lt weak (always_returns_same _ _ _ (λ a r f k. search rules));
    }
