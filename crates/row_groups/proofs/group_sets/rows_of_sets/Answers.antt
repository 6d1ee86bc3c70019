use Rattle.std.proofs.Common.{◌≡◌, ◌∙◌, true, false, ap, map, length, rules}
use Rattle.std.specs.Prelude.{nat_le}
use Rattle.plan_denote.specs.Aggregate.{MAX_INPUT}
use Rattle.plan_denote.specs.Denote.{any_measure}
use Rattle.plan_denote.specs.GroupSets.{rows_of_set}
use Rattle.row_steps.specs.Seen.{seen}
use Rattle.row_groups.proofs.GroupSetLaws.{one_set_more, all_sets, few_sets, many_sets}
use Rattle.row_groups.proofs.group_sets.rows_of_sets.Goals as goal

pub returns-then-not-are_few : goal.returns-then-not-are_few
returns-then-not-are_few c =
    let many : nat_le (length c.args.entries.now) MAX_INPUT ≡ false = search rules in
    let ending = many_sets c.args.number c.args.width c.args.sets.now (map any_measure c.args.measures.now) c.args.entries.now many in
    search (rules, ending)

pub loop-place-preserved : goal.loop-place-preserved
loop-place-preserved c =
    let measures = map any_measure c.args.measures.now in
    let sets = c.args.sets.now in
    let set = c.index-sets-place.result in
    one_set_more c.args.number c.args.width measures c.args.entries.now sets c.loop-place.place set (seen c.loop-place.all) (seen c.in_ok-rows.rows) (seen c.in_ok-all.all) _ c.loop-place-test.true c.index-sets-place.is
    (c.in_ok-rows.ensures
    ∙ ap (λ one. rows_of_set c.args.number c.args.width measures c.args.entries.now one c.in_ok-last.last) c.as_slice.ensures
    ∙ ap (λ last. rows_of_set c.args.number c.args.width measures c.args.entries.now set last) c.in_ok-last.ensures)
    c.in_ok-all.ensures c.loop-place.invariant

pub returns : goal.returns
returns c =
    let few : nat_le (length c.args.entries.now) MAX_INPUT ≡ true = search rules in
    all_sets c.args.number c.args.width (map any_measure c.args.measures.now) c.args.entries.now c.args.sets.now c.loop-place.place (seen c.loop-place.all) _ c.loop-place-test.false c.loop-place.invariant
    ∙ few_sets c.args.number c.args.width c.args.sets.now (map any_measure c.args.measures.now) c.args.entries.now few
