-- Expressions at the first rows of a batch, up to the first fault.
use Rattle.std.specs.Prelude.{◌≡◌, ℕ, List, Option, Some, None, map, length}
use Rattle.std.specs.List.{range_with_len}
use Rattle.sub_types.specs.declared.fault.FaultKind.{FaultKind}
use Rattle.plan_typed.specs.declared.expr.Expr.{Expr}
use Rattle.plan_denote.specs.Computed.{Row}
use Rattle.plan_denote.specs.Eval.{eval}
use Rattle.batch.specs.declared.batch.Batch.{Batch}
use Rattle.batch.specs.declared.column.Column as stored
use Rattle.batch.specs.Column.{column_values}
use Rattle.kernels.specs.declared.selection.Stop.{Stop}
use Rattle.kernels.specs.declared.selection.Stop.TheVariants.{Never, At}
use Rattle.batch_nodes.specs.Evaluated.{row_at}
use Rattle.group_laws.specs.Columns.{Column, column, first_stop}
use Rattle.group_inputs.specs.declared.before.Before.{Before}

-- the first so many rows of a batch
abbrev pub first_rows : ℕ → Batch → List Row
first_rows n batch = map (row_at batch) (range_with_len 0 n)

-- the fault of a stop
abbrev pub kind_in : Stop → Option FaultKind
kind_in Never = None
kind_in (At row kind) = Some kind

-- the rows before a column's fault, and the fault
pub record IsAfter {A : Type 0} (one : Column A) (before after : Before) : Type 0 where
  pub rows : after.rows ≡ length one.values
  pub stop : after.stop ≡ first_stop one.stop before.stop

-- the values of an expression at the first rows
pub record IsColumn (expr : Expr) (batch : Batch) (before : Before) (given : stored.Column) (ended : Before) : Type 0 where
  pub values : column_values given ≡ (column (eval expr) (first_rows before.rows batch)).values
  pub after : IsAfter (column (eval expr) (first_rows before.rows batch)) before ended
