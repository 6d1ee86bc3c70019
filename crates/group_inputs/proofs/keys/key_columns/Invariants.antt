use Rattle.std.proofs.Common.{◌≡◌, None, map, take, drop}
use Rattle.plan_denote.specs.Eval.{eval}
use Rattle.batch.specs.Column.{column_values}
use Rattle.group_laws.specs.Columns.{column}
use Rattle.group_inputs.specs.Before.{first_rows}
use Rattle.group_inputs.proofs.UntilLaws.{column_short, column_full}
use Rattle.group_inputs.proofs.EachLaws.{IsLeft}
use Rattle.group_inputs.proofs.keys.key_columns.Given as goal

-- the columns so far, and the expressions that are left
abbrev pub invariant-loop-group : goal.invariant-loop-group
invariant-loop-group l = record {
  left : IsLeft (λ group. column (eval group)) (λ group. column_short (eval group)) (λ group. column_full (eval group)) l.groups (drop l.group-index l.groups) l.batch l.fn.before l.state;
  values : l.state.stop ≡ None → map column_values l.columns.items ≡ map (λ group. (column (eval group) (first_rows l.fn.before.rows l.batch)).values) (take l.group-index l.groups);
}
