use Rattle.std.proofs.Common.{◌≡◌, List, IfOk, subst, map}
use Rattle.plan_denote.specs.Denote.{direction_of}
use Rattle.plan_denote.specs.Rows.{Row}
use Rattle.plan_denote.specs.Sort.{Keyed, IsArrangement}
use Rattle.row_sorts.specs.Sorting.{by_key}
use Rattle.row_sorts.proofs.SortedLaws.{in_order}
use Rattle.row_sorts.proofs.sort.rows_in_order.Goals as goal

pub returns : goal.returns
returns c =
    let directions = map direction_of c.args.keys.now in
    subst (λ (rows : List Row). IfOk c.second_of.result (λ found. found ≡ rows)) (in_order directions c.args.rows c.put_in_order.new.rows.items (subst (λ (rows : List Keyed). IsArrangement (by_key directions) rows c.put_in_order.new.rows.items) c.into_vec-rows.ensures c.in_ok-put_in_order.ensures)) c.second_of.ensures
