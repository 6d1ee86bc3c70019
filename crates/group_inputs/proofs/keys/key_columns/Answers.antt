use Rattle.std.proofs.Common.{◌∙◌, ◌+◌, ◌<◌, ◌≤◌, length, map, drop, sym, ap, subst, arith}
use Rattle.std.proofs.lemmas.List.{drop_all, take_all}
use Rattle.plan_denote.specs.Eval.{eval}
use Rattle.batch.specs.Column.{column_values}
use Rattle.group_laws.specs.Columns.{column}
use Rattle.group_inputs.specs.Before.{first_rows, IsAfter}
use Rattle.group_inputs.proofs.UntilLaws.{column_short, column_full}
use Rattle.group_inputs.proofs.EachLaws.{left_first, left_next, left_last, columns_each}
use Rattle.group_inputs.proofs.InputLaws.{one_left, keys_more}
use Rattle.group_inputs.proofs.keys.key_columns.Goals as goal

pub loop-group-init : goal.loop-group-init
loop-group-init c = record {
  left = left_first (λ group. column (eval group)) (λ group. column_short (eval group)) (λ group. column_full (eval group)) c.args.groups.now c.args.batch.now c.args.before;
  values = λ none. ap (map column_values) c.new-columns.ensures.items;
}

pub loop-group-preserved : goal.loop-group-preserved
loop-group-preserved c =
    let l = c.loop-group in
    let groups = c.args.groups.now in
    let one = c.group-item.result in
    let there : l.group-index < length groups = omega (arith, c.loop-group-test.true) in
    record {
      left = left_next (λ group. column (eval group)) (λ group. column_short (eval group)) (λ group. column_full (eval group)) groups (drop l.group-index groups) (drop (l.group-index + 1) groups) one c.args.batch.now c.args.before l.state c.in_ok-column.after
          l.invariant.left (one_left groups l.group-index one there c.group-item.is) c.in_ok-column.ensures.column.after;
      values = λ none. keys_more groups c.args.batch.now c.args.before l.state c.in_ok-column.after l.group-index one l.columns.items c.push.new.self.items c.in_ok-column.column there c.group-item.is c.in_ok-push.ensures.items
          l.invariant.left.whole c.in_ok-column.ensures.column l.invariant.values none;
    }

pub returns : goal.returns
returns c =
    let l = c.loop-group in
    let groups = c.args.groups.now in
    let all : length groups ≤ l.group-index = omega (arith, c.loop-group-test.false) in
    record {
      after = subst (λ (one : _). IsAfter one c.args.before l.state) (sym (columns_each eval groups (first_rows c.args.before.rows c.args.batch.now)))
          (left_last (λ group. column (eval group)) (λ group. column_short (eval group)) (λ group. column_full (eval group)) groups (drop l.group-index groups) c.args.batch.now c.args.before l.state l.invariant.left (drop_all l.group-index groups all));
      values = λ none. l.invariant.values none ∙ ap (map (λ group. (column (eval group) (first_rows c.args.before.rows c.args.batch.now)).values)) (take_all l.group-index groups all);
    }
