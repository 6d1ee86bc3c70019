-- Lists of expressions at a row.
use Rattle.std.specs.Prelude.{◌≡◌, List, Option, Some, None, Ok, Err, Result, map}
use Rattle.sub_types.specs.declared.fault.FaultKind.{FaultKind}
use Rattle.sub_types.specs.declared.kind.Kind.{Kind}
use Rattle.sub_types.specs.declared.value.Value.{Value}
use Rattle.plan_typed.specs.declared.expr.Expr.{Expr}
use Rattle.plan_typed.specs.Types.{ty_of}
use Rattle.std.specs.Ordering.{is_eq}
use Rattle.plan_denote.specs.Computed.{Row, Computed, ◌>>=◌}
use Rattle.plan_denote.specs.Logic.{compared}
use Rattle.plan_denote.specs.Eval.{eval}
use Rattle.eval_values.specs.declared.error.EvalError.{EvalError}
use Rattle.eval_values.specs.declared.error.EvalError.TheVariants as errors
use Rattle.eval_row.specs.declared.eval.Cell.{Cell}
use Rattle.eval_row.specs.declared.eval.Cell.TheVariants as cells

-- their kinds
abbrev pub kinds_of : List Expr → List Kind
kinds_of exprs = map (λ expr. (ty_of expr).kind) exprs

-- what each is worth
abbrev pub worth : List Expr → Row → List Computed
worth exprs row = map (λ expr. eval expr row) exprs

-- conditions with values, and literals with values
abbrev pub arms_at : List (Expr × Expr) → Row → List (Computed × Computed)
arms_at arms row = map (λ (arm : Expr × Expr). (eval arm.0 row, eval arm.1 row)) arms

abbrev pub choices_at : List (Value × Expr) → Row → List (Value × Computed)
choices_at arms row = map (λ (arm : Value × Expr). (arm.0, eval arm.1 row)) arms

-- all values, or the first fault
abbrev pub GivesAll : Result (List Value) EvalError → Result (List Value) FaultKind → Type 0
GivesAll (Ok found) expected = expected ≡ Ok found
GivesAll (Err (errors.Fault kind)) expected = expected ≡ Err kind
GivesAll (Err errors.NoMemory) expected = Unit {0}

-- the cell is what the expression is worth
abbrev pub IsCell : Cell → Computed → Type 0
IsCell (cells.Value value) expected = expected ≡ Ok value
IsCell (cells.Fault kind) expected = expected ≡ Err kind

-- the comparison of a value with each
abbrev pub compared_to : Value → List Computed → List Computed
compared_to value options = map (λ option. option >>= (λ other. compared is_eq value other)) options

-- the value that is picked, or the other where none is
abbrev pub Picks : Result (Option Value) EvalError → Computed → Computed → Type 0
Picks (Ok (Some value)) other expected = expected ≡ Ok value
Picks (Ok None) other expected = expected ≡ other
Picks (Err (errors.Fault kind)) other expected = expected ≡ Err kind
Picks (Err errors.NoMemory) other expected = Unit {0}
