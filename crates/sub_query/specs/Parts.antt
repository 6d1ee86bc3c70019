-- What stands at a node once what goes there is put in.
use Rattle.std.specs.Prelude.{ℕ, ◌+◌, List, Option, Some, map}
use Rattle.std.specs.List.{sum_by}
use Rattle.sub_types.specs.declared.value.Value.{Value}
use Rattle.plan_typed.specs.declared.expr.Expr.{Expr}
use Rattle.plan_typed.specs.declared.expr.Expr.TheVariants as exprs
use Rattle.plan_typed.specs.declared.rel.Op.{Op, fold-Op}
use Rattle.plan_typed.specs.declared.rel.Rel.{Rel}
use Rattle.plan_typed.specs.declared.rel.SetMeasure.{SetMeasure}
use Rattle.plan_typed.specs.declared.rel.SortKey.{SortKey}
use Rattle.plan_denote.specs.Holes.{Worth, Single, Among, Known, Filled, filled_expr, arms_from, choices_from, measure_from, filled_op, filled_rel}

-- the value of a constant, and the options of a list
abbrev pub value_with : Option Worth → Value → Value
value_with (Some (Single value)) _ = value
value_with _ value = value

abbrev pub options_with : Option Worth → List Expr → List Expr
options_with (Some (Among column found)) _ = map (λ one. exprs.Const one column) found
options_with _ options = options

-- what a relation does, by all that is known and by what goes to the relation's own nodes
unfoldable pub op_with : Known → (ℕ → Option Worth) → Op → Op
op_with known here op = fold-Op ((ℕ → Option Worth) → Op) Rel filled_op (filled_rel known) op here

-- the arms of an if, and those of a switch, of which the first node has this number
abbrev pub arms_with : (ℕ → Option Worth) → ℕ → List (Expr × Expr) → List (Expr × Expr)
arms_with here number arms = arms_from number (map (λ (arm : Expr × Expr). (filled_expr here arm.0, filled_expr here arm.1)) arms)

abbrev pub size_of_arms : (ℕ → Option Worth) → List (Expr × Expr) → ℕ
size_of_arms here arms = sum_by (λ (arm : Filled × Filled). arm.0.size + arm.1.size) (map (λ (arm : Expr × Expr). (filled_expr here arm.0, filled_expr here arm.1)) arms)

abbrev pub choices_with : (ℕ → Option Worth) → ℕ → List (Value × Expr) → List (Value × Expr)
choices_with here number arms = choices_from number (map (λ (arm : Value × Expr). (arm.0, filled_expr here arm.1)) arms)

abbrev pub size_of_choices : (ℕ → Option Worth) → List (Value × Expr) → ℕ
size_of_choices here arms = sum_by (λ (choice : Value × Filled). choice.1.size) (map (λ (arm : Value × Expr). (arm.0, filled_expr here arm.1)) arms)

-- a sort key, and a measure that may be over distinct values
abbrev pub key_from : (ℕ → Option Worth) → ℕ → SortKey → SortKey
key_from here number key = record key { expr = (filled_expr here key.expr).at number }

abbrev pub set_measure_from : (ℕ → Option Worth) → ℕ → SetMeasure → SetMeasure
set_measure_from here number one = record one { measure = measure_from here number one.measure }
