use Rattle.std.proofs.Common.{◌+◌, ◌<◌, ◌≤◌, length, drop, sym, subst, arith}
use Rattle.std.proofs.lemmas.List.{drop_all, take_all}
use Rattle.plan_denote.specs.Denote.{measure_of}
use Rattle.group_laws.specs.Columns.{members}
use Rattle.group_inputs.specs.Before.{first_rows, IsAfter}
use Rattle.group_inputs.specs.Taking.{AreWholly}
use Rattle.group_inputs.proofs.EachLaws.{left_first, left_next, left_last, members_short, members_full, members_each}
use Rattle.group_inputs.proofs.InputLaws.{one_left, wholly_more, wholly_none}
use Rattle.group_inputs.proofs.taking.takings.Goals as goal

pub loop-measure-init : goal.loop-measure-init
loop-measure-init c = record {
  left = left_first (λ measure. members (measure_of measure)) (λ measure. members_short (measure_of measure)) (λ measure. members_full (measure_of measure)) c.args.measures.now c.args.batch.now c.args.before;
  wholly = λ none. wholly_none c.args.batch.now c.args.before.rows c.new-all.result.items c.new-all.ensures.items;
}

pub loop-measure-preserved : goal.loop-measure-preserved
loop-measure-preserved c =
    let l = c.loop-measure in
    let measures = c.args.measures.now in
    let one = c.measure-item.result in
    let there : l.measure-index < length measures = omega (arith, c.loop-measure-test.true) in
    record {
      left = left_next (λ measure. members (measure_of measure)) (λ measure. members_short (measure_of measure)) (λ measure. members_full (measure_of measure)) measures (drop l.measure-index measures) (drop (l.measure-index + 1) measures) one c.args.batch.now c.args.before l.state c.in_ok-taken.after
          l.invariant.left (one_left measures l.measure-index one there c.measure-item.is) c.in_ok-taken.ensures.after;
      wholly = λ none. wholly_more measures c.args.batch.now c.args.before l.state c.in_ok-taken.after l.measure-index one l.all.items c.push.new.self.items c.in_ok-taken.taken there c.measure-item.is c.in_ok-push.ensures.items
          l.invariant.left.whole c.in_ok-taken.ensures l.invariant.wholly none;
    }

pub returns : goal.returns
returns c =
    let l = c.loop-measure in
    let measures = c.args.measures.now in
    let all : length measures ≤ l.measure-index = omega (arith, c.loop-measure-test.false) in
    record {
      after = subst (λ (one : _). IsAfter one c.args.before l.state) (sym (members_each measure_of measures (first_rows c.args.before.rows c.args.batch.now)))
          (left_last (λ measure. members (measure_of measure)) (λ measure. members_short (measure_of measure)) (λ measure. members_full (measure_of measure)) measures (drop l.measure-index measures) c.args.batch.now c.args.before l.state l.invariant.left (drop_all l.measure-index measures all));
      wholly = λ none. subst (λ some. AreWholly some c.args.batch.now c.args.before.rows l.all.items) (take_all l.measure-index measures all) (l.invariant.wholly none);
    }
