-- What is known of the parts of an expression while it is evaluated at rows of a batch.
use Rattle.std.specs.Prelude.{◌≡◌, ℕ, ◌+◌, ◌<◌, ◌≤◌, length, map, slice_index_or, List, Bool, true, false, Result}
use Rattle.std.specs.List.{All}
use Rattle.sub_types.specs.declared.fault.FaultKind.{FaultKind}
use Rattle.sub_types.specs.declared.kind.Kind.{Kind}
use Rattle.sub_types.specs.declared.value.Value.{Value}
use Rattle.plan_typed.specs.declared.expr.Expr.{Expr}
use Rattle.plan_typed.specs.declared.expr.Func.{Func}
use Rattle.plan_typed.specs.declared.expr.Func.TheVariants as funcs
use Rattle.plan_denote.specs.Computed.{collect}
use Rattle.batch.specs.declared.batch.Batch.{Batch}
use Rattle.kernels.specs.declared.selection.Stop.{Stop}
use Rattle.kernels.specs.Until.{Until, until}
use Rattle.batch_nodes.specs.Chosen.{other_than}
use Rattle.batch_nodes.specs.Found.{IsOfKind, found_at, found_values}
use Rattle.batch_nodes.specs.Narrowed.{open_rows}
use Rattle.batch_nodes.specs.declared.found.Found.{Found}
use Rattle.batch_nodes.specs.Evaluated.{eval_at, worth_at, first_rows}

-- all arguments of the function are evaluated
abbrev pub is_strict : Func → Bool
is_strict funcs.And = false
is_strict funcs.Or = false
is_strict funcs.Coalesce = false
is_strict _ = true

-- the values and the stop are what this gives at these rows
pub record AreUntil {X : Type 0} (f : ℕ → Result X FaultKind) (rows : List ℕ) (given : List X) (ended : Stop) : Type 0 where
  pub values : given ≡ (until f rows).values
  pub stop : ended ≡ (until f rows).stop

-- the first places of these columns are the arguments' values at the rows before the stop
pub record AreColumns (args : List Expr) (batch : Batch) (at : List ℕ) (found : List Found) (len : ℕ) (ended : Stop) : Type 0 where
  pub rows : until (λ i. collect (worth_at args batch i)) at ≡ record { values = first_rows len found; stop = ended }
  pub long : All (λ column. len ≤ length (found_values column)) found
  pub short : len ≤ length at

-- each column has the values of the expression of its number at the rows that choose it
pub record AreChosen (chosen : ℕ → Expr) (batch : Batch) (rows choices : List ℕ) (of : Kind) (columns : List (Found × Stop)) : Type 0 where
  pub values : (j : ℕ) → j < length columns → found_at columns j ≡ until (eval_at (chosen j) batch) (open_rows (other_than j) rows choices)
  pub kinds : All (λ column. IsOfKind of column.0) columns

-- the expression of a number: that of an arm, and the other behind them
abbrev pub arm_at : {X : Type 0} → List (X × Expr) → Expr → ℕ → Expr
arm_at arms other j = slice_index_or (map (λ arm. arm.1) arms) j other

-- the literals of arms
abbrev pub literals : List (Value × Expr) → List Value
literals arms = map (λ arm. arm.0) arms
