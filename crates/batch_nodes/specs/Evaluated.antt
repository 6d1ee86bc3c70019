-- An expression at rows of a batch, up to the first fault.
use Rattle.std.specs.Prelude.{ℕ, List, [], map, slice_index_or, Result}
use Rattle.std.specs.List.{range_with_len}
use Rattle.sub_types.specs.Rows.{transpose}
use Rattle.sub_types.specs.declared.fault.FaultKind.{FaultKind}
use Rattle.sub_types.specs.declared.value.Value.{Value}
use Rattle.sub_types.specs.declared.value.Value.TheVariants.{Null}
use Rattle.plan_typed.specs.declared.expr.Expr.{Expr}
use Rattle.plan_denote.specs.Computed.{Row, Computed}
use Rattle.plan_denote.specs.Eval.{eval}
use Rattle.batch.specs.BatchRows.{rows_of}
use Rattle.batch.specs.declared.batch.Batch.{Batch}
use Rattle.kernels.specs.declared.selection.Stop.{Stop}
use Rattle.kernels.specs.Until.{Until, until}
use Rattle.batch_nodes.specs.Found.{found_values}
use Rattle.batch_nodes.specs.declared.found.Found.{Found}

-- a row of a batch
abbrev pub row_at : Batch → ℕ → Row
row_at batch row = slice_index_or (rows_of batch) row []

-- what an expression is worth at a row of a batch, and what several are
abbrev pub eval_at : Expr → Batch → ℕ → Computed
eval_at expr batch row = eval expr (row_at batch row)

abbrev pub worth_at : List Expr → Batch → ℕ → List Computed
worth_at exprs batch row = map (λ expr. eval_at expr batch row) exprs

-- its values at these rows before the first fault, and that fault
abbrev pub evaluated : Expr → Batch → List ℕ → Until Value
evaluated expr batch rows = until (eval_at expr batch) rows

-- the values of several columns at the first places
abbrev pub first_rows : ℕ → List Found → List (List Value)
first_rows n columns = transpose Null n (map found_values columns)
