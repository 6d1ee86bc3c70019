-- What an expression is worth at a row: a value, or the first fault from left to right.
use Rattle.std.specs.Prelude.{map, Ok, slice_index_or}
use Rattle.sub_types.specs.declared.kind.Ty.{Ty}
use Rattle.sub_types.specs.declared.value.Value.TheVariants as values
use Rattle.plan_typed.specs.declared.expr.Expr.{Expr, Expr-F, fold-Expr}
use Rattle.plan_denote.specs.Computed.{Row, Computed, ◌>>=◌}
use Rattle.plan_denote.specs.Logic.{first_true, first_equal, one_of}
use Rattle.plan_denote.specs.Calls.{called}
use Rattle.plan_denote.specs.Casts.{cast, or_null}

-- what an expression is worth at each row, and its type, since calls and casts ask for the kinds of what they take
pub record Meaning : Type 0 where
  pub ty : Ty
  pub at : Row → Computed

abbrev pub of_type : Ty → (Row → Computed) → Meaning
of_type ty at = record { ty = ty; at = at }

-- one node, by what is inside it
abbrev pub meaning : Expr-F Meaning → Meaning
meaning (Expr-F.Const value ty) = of_type ty (λ row. Ok value)
meaning (Expr-F.Column index ty) = of_type ty (λ row. Ok (slice_index_or row index values.Null))
meaning (Expr-F.Call func mode args ty) = of_type ty (λ row. called func ty.kind mode (map (λ arg. arg.ty.kind) args) (map (λ arg. arg.at row) args))
meaning (Expr-F.If arms other ty) = of_type ty (λ row. first_true (map (λ arm. (arm.0.at row, arm.1.at row)) arms) (other.at row))
meaning (Expr-F.Switch subject arms other ty) = of_type ty (λ row. subject.at row >>= (λ value. first_equal value (map (λ arm. (arm.0, arm.1.at row)) arms) (other.at row)))
meaning (Expr-F.OneOf value options ty) = of_type ty (λ row. value.at row >>= (λ one. one_of one (map (λ option. option.at row) options)))
meaning (Expr-F.Cast input null_on_fail ty) = of_type ty (λ row. input.at row >>= (λ value. or_null null_on_fail (cast input.ty.kind ty.kind value)))

unfoldable pub meaning_of : Expr → Meaning
meaning_of = fold-Expr Meaning meaning

-- what an expression is worth at a row
abbrev pub eval : Expr → Row → Computed
eval expr row = (meaning_of expr).at row
