-- Well-typed expressions, and joins, over two columns of numbers on each side.
use Rattle.std.specs.Prelude.{◌≡◌, List, [], ◌∷◌, true}
use Rattle.std.specs.List.{All}
use Rattle.sub_types.specs.declared.kind.Kind.TheVariants as kinds
use Rattle.sub_types.specs.declared.kind.Ty.{Ty}
use Rattle.sub_types.specs.Value.{Fits}
use Rattle.plan_typed.specs.declared.expr.Expr.{Expr}
use Rattle.plan_typed.specs.Types.{ty_of}
use Rattle.well_typed.specs.ExprTyped.{IsTypedOver}
use Rattle.well_typed.specs.WellTyped.{IsConditionOver}
use Rattle.rel_specs.specs.declared.join.JoinSpec.{JoinSpec}
use Rattle.hash_join.specs.Built.{Built, IsJoinable}

-- a number or null, and a truth value or null
abbrev pub number : Ty
number = record { kind = kinds.I64; nullable = true }

abbrev pub truth : Ty
truth = record { kind = kinds.Bool; nullable = true }

-- the columns of a side, and those of both
abbrev pub numbers : List Ty
numbers = number ∷ number ∷ []

abbrev pub sides : List Ty
sides = number ∷ number ∷ number ∷ number ∷ []

-- well typed over the columns of both sides, and of this type
pub record IsTyped (ty : Ty) (expr : Expr) : Type 0 where
  pub typed : IsTypedOver sides expr
  pub ty_is : ty_of expr ≡ ty

-- a join of two columns of numbers on each side, whose rest is well typed
pub record IsOfNumbers (spec : JoinSpec) : Type 0 where
  pub joinable : IsJoinable spec
  pub left : spec.left.items ≡ numbers
  pub right : spec.right.items ≡ numbers
  pub rest : All (IsConditionOver sides) spec.rest.items

-- its table, whose rows fit
pub record IsReady (built : Built) : Type 0 where
  pub join : IsOfNumbers built.spec
  pub fit : All (Fits numbers) built.rows
