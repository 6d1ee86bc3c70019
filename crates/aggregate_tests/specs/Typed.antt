-- Well-typed expressions and measures over two columns of numbers.
use Rattle.std.specs.Prelude.{◌≡◌, List, [], ◌∷◌, true}
use Rattle.sub_types.specs.declared.kind.Kind.TheVariants as kinds
use Rattle.sub_types.specs.declared.kind.Ty.{Ty}
use Rattle.plan_typed.specs.declared.expr.Expr.{Expr}
use Rattle.plan_typed.specs.Types.{ty_of}
use Rattle.well_typed.specs.ExprTyped.{IsTypedOver}

-- a number or null, and a truth value or null
abbrev pub number : Ty
number = record { kind = kinds.I64; nullable = true }

abbrev pub truth : Ty
truth = record { kind = kinds.Bool; nullable = true }

-- the two columns
abbrev pub numbers : List Ty
numbers = number ∷ number ∷ []

-- well typed over the two columns, and of this type
pub record IsTyped (ty : Ty) (expr : Expr) : Type 0 where
  pub typed : IsTypedOver numbers expr
  pub ty_is : ty_of expr ≡ ty
