use Rattle.std.proofs.Common.{◌≡◌, ◌∙◌, ◌+◌, ◌<◌, ◌≤◌, length, map, get_or, refl, sym, ap, subst, arith}
use Rattle.std.proofs.lemmas.List.{length-map, get_or-map}
use Rattle.std.proofs.lemmas.List.Elements.{All-get_or}
use Rattle.plan_denote.specs.Aggregate.{MAX_INPUT}
use Rattle.group_columns.specs.Columns.{count_in}
use Rattle.group_columns.proofs.StepLaws.{count_at}
use Rattle.group_tallies.specs.Kept.{keeping_in, tallies_in}
use Rattle.aggregate.specs.Finals.{finals_at}
use Rattle.aggregate.proofs.FinalLaws.{behind, none_behind, final_more, final_done, final_err, same_at}
use Rattle.set_states.specs.States.{keeping, measure_in}
use Rattle.set_states.proofs.SetLaws.{as_kept}
use Rattle.set_rows.proofs.row.finals.Goals as goal

pub loop-one-init : goal.loop-one-init
loop-one-init c =
    let measures = map measure_in c.args.measures.now in
    record {
      values = none_behind (finals_at c.args.group measures c.args.columns.now) ∙ ap (λ done. behind done (finals_at c.args.group measures c.args.columns.now)) (sym c.new-values.ensures);
      place = refl;
      all = as_kept keeping_in keeping c.args.columns.now c.args.measures.now c.requires.kinds;
    }

pub final_at-requires-clause-group : goal.final_at-requires-clause-group
final_at-requires-clause-group c =
    let l = c.loop-one in
    let within : l.place < length c.args.columns.now = omega (arith, l.invariant.place, l.invariant.all, c.loop-one-test.true) in
    subst (λ tallies. c.args.group < length (tallies_in tallies)) (sym c.index-columns-place.is) (All-get_or (λ tallies. c.args.group < length (tallies_in tallies)) c.args.columns.now l.place c.index-columns-place.result within c.requires.group)

pub final_at-requires-clause-keeping : goal.final_at-requires-clause-keeping
final_at-requires-clause-keeping c =
    let l = c.loop-one in
    let there : l.place < length c.args.measures.now = omega (arith, l.invariant.place, c.loop-one-test.true) in
    let within : l.place < length c.args.columns.now = omega (arith, l.invariant.place, l.invariant.all, c.loop-one-test.true) in
    same_at keeping_in keeping c.args.columns.now c.args.measures.now l.place c.index-columns-place.result c.one-item.result c.requires.kinds within there c.index-columns-place.is (rw l.invariant.place c.one-item.is)

pub final_at-requires-clause-few : goal.final_at-requires-clause-few
final_at-requires-clause-few c =
    let l = c.loop-one in
    let tallies = c.index-columns-place.result in
    let within : l.place < length c.args.columns.now = omega (arith, l.invariant.place, l.invariant.all, c.loop-one-test.true) in
    let few : count_in (tallies_in tallies) ≤ MAX_INPUT = subst (λ tallies. count_in (tallies_in tallies) ≤ MAX_INPUT) (sym c.index-columns-place.is) (All-get_or (λ tallies. count_in (tallies_in tallies) ≤ MAX_INPUT) c.args.columns.now l.place tallies within c.requires.few) in
    let there : c.args.group < length (tallies_in tallies) = subst (λ tallies. c.args.group < length (tallies_in tallies)) (sym c.index-columns-place.is) (All-get_or (λ tallies. c.args.group < length (tallies_in tallies)) c.args.columns.now l.place tallies within c.requires.group) in
    omega (arith, few, count_at (tallies_in tallies) c.args.group there)

pub loop-one-preserved : goal.loop-one-preserved
loop-one-preserved c =
    let l = c.loop-one in
    let own = c.args.measures.now in
    let measures = map measure_in own in
    let item = c.one-item.result in
    let columns = c.args.columns.now in
    let long : length measures ≡ length own = length-map own measure_in in
    let here : l.place < length own = omega (arith, l.invariant.place, c.loop-one-test.true) in
    let there : l.place < length measures = omega (arith, here, long) in
    let within : l.place < length columns = omega (arith, here, l.invariant.all) in
    let own_is : item ≡ get_or own l.place item = rw l.invariant.place c.one-item.is in
    let is : measure_in item ≡ get_or measures l.place (measure_in item) = ap measure_in own_is ∙ sym (get_or-map measure_in own l.place item (measure_in item) here) in
    let next : l.place + 1 ≡ l.one-index + 1 = omega (arith, l.invariant.place) in
    record {
      values = final_more c.args.group l.place (l.place + 1) measures columns (measure_in item) c.index-columns-place.result l.values c.push.new.self c.in-Ok.value (finals_at c.args.group measures columns)
          there within is c.index-columns-place.is c.in-Ok.ensures c.in_ok-push-in-Ok.ensures.ok refl l.invariant.values;
      place = next;
      all = l.invariant.all;
    }

pub returns-in-Err : goal.returns-in-Err
returns-in-Err c =
    let l = c.loop-one in
    let own = c.args.measures.now in
    let measures = map measure_in own in
    let item = c.one-item.result in
    let columns = c.args.columns.now in
    let long : length measures ≡ length own = length-map own measure_in in
    let here : l.place < length own = omega (arith, l.invariant.place, c.loop-one-test.true) in
    let there : l.place < length measures = omega (arith, here, long) in
    let within : l.place < length columns = omega (arith, here, l.invariant.all) in
    let own_is : item ≡ get_or own l.place item = rw l.invariant.place c.one-item.is in
    let is : measure_in item ≡ get_or measures l.place (measure_in item) = ap measure_in own_is ∙ sym (get_or-map measure_in own l.place item (measure_in item) here) in
    final_err c.in-Err.error c.args.group l.place measures columns (measure_in item) c.index-columns-place.result l.values there within is c.index-columns-place.is c.in-Err.ensures l.invariant.values

pub returns : goal.returns
returns c =
    let l = c.loop-one in
    let own = c.args.measures.now in
    let measures = map measure_in own in
    let long : length measures ≡ length own = length-map own measure_in in
    let all : length measures ≤ l.place = omega (arith, long, l.invariant.place, c.loop-one-test.false) in
    final_done c.args.group l.place measures c.args.columns.now l.values (finals_at c.args.group measures c.args.columns.now) all l.invariant.values
