use Rattle.std.proofs.Common.{◌≡◌, true, false, rules}
use Rattle.std.specs.List.{list_any}
use Rattle.plan_denote.specs.Order.{is_same}
use Rattle.row_sorts.proofs.DistinctLaws.{none_found, found_new, found_known}
use Rattle.row_sorts.proofs.SameLaws.{same_values}
use Rattle.row_sorts.proofs.distinct.distinct_values.Goals as goal

pub loop-value-init : goal.loop-value-init
loop-value-init c = none_found is_same c.new-found.result c.into_iter-value-iterator.result.rest.items c.args.values c.new-found.ensures (search rules)

pub loop-value-preserved-in-Continue-1 : goal.loop-value-preserved-in-Continue-1
loop-value-preserved-in-Continue-1 c =
    let fresh : list_any (is_same c.in-Some.value) c.loop-value.found ≡ false = search rules in
    found_new same_values c.loop-value.found c.push.new.self c.loop-value.value-iterator.rest.items c.next.new.self.rest.items _ c.in-Some.value fresh (search rules) (search rules) c.loop-value.invariant

pub loop-value-preserved-else-not-is_among : goal.loop-value-preserved-else-not-is_among
loop-value-preserved-else-not-is_among c =
    let known : list_any (is_same c.in-Some.value) c.loop-value.found ≡ true = search rules in
    found_known same_values c.loop-value.found c.loop-value.value-iterator.rest.items c.next.new.self.rest.items _ c.in-Some.value known (search rules) c.loop-value.invariant

pub loop-value-preserved : goal.loop-value-preserved
loop-value-preserved c =
    let known : list_any (is_same c.in-Some.value) c.loop-value.found ≡ true = search rules in
    found_known same_values c.loop-value.found c.loop-value.value-iterator.rest.items c.next.new.self.rest.items _ c.in-Some.value known (search rules) c.loop-value.invariant
