-- Columns of expressions at the rows of a batch before the first fault.
use Rattle.std.specs.Prelude.{◌≡◌, ℕ, ◌≤◌, List, map, length, take}
use Rattle.std.specs.List.{All, range_with_len}
use Rattle.sub_types.specs.Rows.{transpose}
use Rattle.sub_types.specs.declared.value.Value.TheVariants.{Null}
use Rattle.plan_typed.specs.Types.{ty_of}
use Rattle.plan_typed.specs.declared.expr.Expr.{Expr}
use Rattle.plan_denote.specs.Computed.{collect}
use Rattle.batch.specs.Column.{column_type, column_values}
use Rattle.batch.specs.ColumnValues.{values_of}
use Rattle.batch.specs.declared.batch.Batch.{Batch}
use Rattle.batch.specs.declared.column.Column.{Column}
use Rattle.kernels.specs.Until.{until}
use Rattle.batch_nodes.specs.Evaluated.{worth_at}
use Rattle.row_ops.specs.Kept.{Shown}
use Rattle.row_ops.specs.declared.projecting.Made.{Made}

pub record AreBehind (exprs : List Expr) (batch : Batch) (made : Made) : Type 0 where
  pub rows : until (λ i. collect (worth_at exprs batch i)) (range_with_len 0 batch.rows) ≡ record { values = transpose Null made.rows (map column_values made.columns.items); stop = made.stop }
  pub long : All (λ (column : Column). made.rows ≤ length (values_of column.values)) made.columns.items
  pub few : made.rows ≤ batch.rows
  pub types : map column_type made.columns.items ≡ map ty_of exprs

-- the first rows of a column
abbrev pub first_shown : ℕ → Column → Shown
first_shown rows column = record { ty = column.ty; values = take rows (values_of column.values) }
