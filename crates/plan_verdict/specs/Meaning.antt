-- What the messages of a plan that hold one another are checked as.
use Rattle.std.specs.Prelude.{ℕ, ℤ, List, Option, Bool}
use Rattle.sub_types.specs.declared.kind.Ty.{Ty}
use Rattle.plan_leaves.specs.declared.literal.RawLiteral.{RawLiteral}
use Rattle.plan_typed.specs.declared.expr.Expr.{Expr}
use Rattle.plan_typed.specs.declared.rel.Rel.{Rel}
use Rattle.plan_typed.specs.declared.rel.SetMeasure.{SetMeasure}
use Rattle.plan_typed.specs.declared.rel.SortKey.{SortKey}
use Rattle.plan_typed.specs.declared.rel.Source.{Source}
use Rattle.plan_typed.specs.declared.rel.TypedMeasure.{TypedMeasure}
use Rattle.plan_tree.specs.Fold.{Level}
use Rattle.plan_verdict.specs.Checking.{Checking}

-- where an expression stands: in the relation with this number, over these columns
pub record Scope : Type 0 where
  pub relation : ℕ
  pub columns : List Ty

-- an expression: how it is checked, and the literal that it is, if it is one
pub record Expression : Type 0 where
  pub check : Scope → Checking Expr
  pub literal : Option RawLiteral

-- an aggregate function: whether its form is supported, whether it is over distinct values, and how the call is checked
pub record Aggregation : Type 0 where
  pub is_supported : Bool
  pub is_distinct : Bool
  pub check : Scope → Option Expr → Checking TypedMeasure

-- a grouping: its own expressions, and the places of others
pub record Sets : Type 0 where
  pub expressions : List Expression
  pub references : List ℕ

-- an arm of a switch
pub record Arm : Type 0 where
  pub literal : Option RawLiteral
  pub value : Option Expression

-- one level of a message, with what the messages inside it are checked as in their places: an argument of a function as an
-- expression, if it is a value; a count and an offset as a number, if they are supported and there is one; a relation by its number
abbrev pub Checked : Level → Type 0
Checked Message =
    Message (Option Expression) Expression (Option (Option ℤ)) (Option (Option ℤ)) (ℕ → Checking Rel) (ℕ → List Ty → Checking Source) Aggregation Sets
    (Scope → Checking SetMeasure) (Scope → Checking SortKey) (Scope → Checking (Expr × Expr)) Arm (List Expression) (ℕ → List Ty → Checking (List (List Expr)))
