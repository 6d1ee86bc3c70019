use Rattle.std.proofs.Common.{◌≡◌, true, false, rules}
use Rattle.std.specs.List.{list_any}
use Rattle.plan_denote.specs.Distinct.{is_same_row}
use Rattle.row_sorts.proofs.DistinctLaws.{none_found, found_new, found_known}
use Rattle.row_sorts.proofs.SameLaws.{same_rows}
use Rattle.row_sorts.proofs.distinct.distinct_rows.Goals as goal

pub loop-row-init : goal.loop-row-init
loop-row-init c = none_found is_same_row c.new-found.result c.into_iter-row-iterator.result.rest.items c.args.rows c.new-found.ensures (search rules)

pub loop-row-preserved-in-Continue-1 : goal.loop-row-preserved-in-Continue-1
loop-row-preserved-in-Continue-1 c =
    let fresh : list_any (is_same_row c.in-Some.row) c.loop-row.found ≡ false = search rules in
    found_new same_rows c.loop-row.found c.push.new.self c.loop-row.row-iterator.rest.items c.next.new.self.rest.items _ c.in-Some.row fresh (search rules) (search rules) c.loop-row.invariant

pub loop-row-preserved : goal.loop-row-preserved
loop-row-preserved c =
    let known : list_any (is_same_row c.in-Some.row) c.loop-row.found ≡ true = search rules in
    found_known same_rows c.loop-row.found c.loop-row.row-iterator.rest.items c.next.new.self.rest.items _ c.in-Some.row known (search rules) c.loop-row.invariant
