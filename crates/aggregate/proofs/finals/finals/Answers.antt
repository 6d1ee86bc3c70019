use Rattle.std.proofs.Common.{◌≡◌, ◌∙◌, ◌+◌, ◌<◌, ◌≤◌, length, refl, sym, ap, subst, arith}
use Rattle.std.proofs.lemmas.List.Elements.{All-get_or}
use Rattle.plan_denote.specs.Aggregate.{MAX_INPUT}
use Rattle.group_columns.specs.Columns.{count_in}
use Rattle.group_columns.proofs.StepLaws.{count_at}
use Rattle.group_tallies.specs.Kept.{keeping_in, tallies_in}
use Rattle.aggregate.specs.Finals.{finals_at}
use Rattle.aggregate.specs.States.{keeping}
use Rattle.aggregate.proofs.FoldLaws.{kept_many}
use Rattle.aggregate.proofs.FinalLaws.{behind, none_behind, final_more, final_done, final_err, same_at}
use Rattle.aggregate.proofs.finals.finals.Goals as goal

pub loop-measure-init : goal.loop-measure-init
loop-measure-init c = record {
  values = none_behind (finals_at c.args.group c.args.measures.now c.args.columns.now) ∙ ap (λ done. behind done (finals_at c.args.group c.args.measures.now c.args.columns.now)) (sym c.new-values.ensures);
  place = refl;
  all = kept_many keeping_in keeping c.args.columns.now c.args.measures.now c.requires.kept;
}

pub final_at-requires-clause-group : goal.final_at-requires-clause-group
final_at-requires-clause-group c =
    let l = c.loop-measure in
    let within : l.place < length c.args.columns.now = omega (arith, l.invariant.place, l.invariant.all, c.loop-measure-test.true) in
    subst (λ tallies. c.args.group < length (tallies_in tallies)) (sym c.index-columns-place.is) (All-get_or (λ tallies. c.args.group < length (tallies_in tallies)) c.args.columns.now l.place c.index-columns-place.result within c.requires.group)

pub final_at-requires-clause-keeping : goal.final_at-requires-clause-keeping
final_at-requires-clause-keeping c =
    let l = c.loop-measure in
    let there : l.place < length c.args.measures.now = omega (arith, l.invariant.place, c.loop-measure-test.true) in
    let within : l.place < length c.args.columns.now = omega (arith, l.invariant.place, l.invariant.all, c.loop-measure-test.true) in
    same_at keeping_in keeping c.args.columns.now c.args.measures.now l.place c.index-columns-place.result c.measure-item.result c.requires.kept within there c.index-columns-place.is (rw l.invariant.place c.measure-item.is)

pub final_at-requires-clause-few : goal.final_at-requires-clause-few
final_at-requires-clause-few c =
    let l = c.loop-measure in
    let tallies = c.index-columns-place.result in
    let within : l.place < length c.args.columns.now = omega (arith, l.invariant.place, l.invariant.all, c.loop-measure-test.true) in
    let few : count_in (tallies_in tallies) ≤ MAX_INPUT = subst (λ tallies. count_in (tallies_in tallies) ≤ MAX_INPUT) (sym c.index-columns-place.is) (All-get_or (λ tallies. count_in (tallies_in tallies) ≤ MAX_INPUT) c.args.columns.now l.place tallies within c.requires.few) in
    let there : c.args.group < length (tallies_in tallies) = subst (λ tallies. c.args.group < length (tallies_in tallies)) (sym c.index-columns-place.is) (All-get_or (λ tallies. c.args.group < length (tallies_in tallies)) c.args.columns.now l.place tallies within c.requires.group) in
    omega (arith, few, count_at (tallies_in tallies) c.args.group there)

pub loop-measure-preserved : goal.loop-measure-preserved
loop-measure-preserved c =
    let l = c.loop-measure in
    let measures = c.args.measures.now in
    let columns = c.args.columns.now in
    let there : l.place < length measures = omega (arith, l.invariant.place, c.loop-measure-test.true) in
    let within : l.place < length columns = omega (arith, l.invariant.place, l.invariant.all, c.loop-measure-test.true) in
    let next : l.place + 1 ≡ l.measure-index + 1 = omega (arith, l.invariant.place) in
    record {
      values = final_more c.args.group l.place (l.place + 1) measures columns c.measure-item.result c.index-columns-place.result l.values c.push.new.self c.in-Ok.value (finals_at c.args.group measures columns)
          there within (rw l.invariant.place c.measure-item.is) c.index-columns-place.is c.in-Ok.ensures c.in_ok-push-in-Ok.ensures.ok refl l.invariant.values;
      place = next;
      all = l.invariant.all;
    }

pub returns-in-Err : goal.returns-in-Err
returns-in-Err c =
    let l = c.loop-measure in
    let there : l.place < length c.args.measures.now = omega (arith, l.invariant.place, c.loop-measure-test.true) in
    let within : l.place < length c.args.columns.now = omega (arith, l.invariant.place, l.invariant.all, c.loop-measure-test.true) in
    final_err c.in-Err.error c.args.group l.place c.args.measures.now c.args.columns.now c.measure-item.result c.index-columns-place.result l.values there within (rw l.invariant.place c.measure-item.is) c.index-columns-place.is c.in-Err.ensures l.invariant.values

pub returns : goal.returns
returns c =
    let l = c.loop-measure in
    let all : length c.args.measures.now ≤ l.place = omega (arith, l.invariant.place, c.loop-measure-test.false) in
    final_done c.args.group l.place c.args.measures.now c.args.columns.now l.values (finals_at c.args.group c.args.measures.now c.args.columns.now) all l.invariant.values
