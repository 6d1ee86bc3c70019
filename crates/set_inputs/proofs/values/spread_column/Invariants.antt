use Rattle.std.proofs.Common.{◌≡◌, ◌+◌, ◌≤◌, ◌++◌, length, map, drop}
use Rattle.batch.specs.Column.{column_values}
use Rattle.group_laws.specs.Columns.{spread}
use Rattle.group_columns.specs.Columns.{values_or_true, trues_in}
use Rattle.group_firsts.specs.Firsts.{or_null}
use Rattle.set_inputs.proofs.values.spread_column.Given as goal

-- the rows so far, and those that are left
abbrev pub invariant-loop-row : goal.invariant-loop-row
invariant-loop-row l = record {
  values : l.builder.values ++ map or_null (spread (drop l.row (values_or_true l.rows l.tests)) (drop l.place (column_values l.values))) ≡ map or_null (spread (values_or_true l.rows l.tests) (column_values l.values));
  kind : l.builder.ty ≡ l.values.ty;
  behind : l.place ≤ l.row;
  left : trues_in (drop l.row (values_or_true l.rows l.tests)) + l.place ≤ length (column_values l.values);
}
