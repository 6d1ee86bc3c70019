-- Expressions over the columns of both sides of a join.
use Rattle.std.specs.Prelude.{◌≡◌}
use Rattle.sub_types.specs.declared.kind.Ty.{Ty}
use Rattle.plan_typed.specs.declared.expr.Expr.{Expr}
use Rattle.plan_typed.specs.Types.{ty_of}
use Rattle.well_typed.specs.ExprTyped.{IsTypedOver}
use Rattle.pipe_round_tests.specs.Steps.{sides}

-- well typed, and of this type
pub record IsTyped (ty : Ty) (expr : Expr) : Type 0 where
  pub typed : IsTypedOver sides expr
  pub ty_is : ty_of expr ≡ ty
