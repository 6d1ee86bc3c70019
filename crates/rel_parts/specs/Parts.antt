-- The parts of relations as those who work on whole inputs take them.
use Rattle.std.specs.Prelude.{◌≡◌, ℕ, ◌+◌, List, [], ◌∷◌, length, map}
use Rattle.sub_types.specs.declared.kind.Ty.{Ty}
use Rattle.plan_typed.specs.declared.expr.Expr.{Expr}
use Rattle.plan_typed.specs.declared.rel.JoinKind.{JoinKind}
use Rattle.plan_typed.specs.declared.rel.JoinKind.TheVariants as joins
use Rattle.plan_typed.specs.declared.rel.SortKey.{SortKey}
use Rattle.plan_denote.specs.Conjuncts.{keys_of, rest_of}
use Rattle.rel_specs.specs.declared.join.JoinSpec.{JoinSpec}
use Rattle.rel_specs.specs.declared.key_order.KeyOrder.{KeyOrder}
use Rattle.plan_pipes.specs.RowMeaning.{key_of_columns}

-- the join of this number and kind, of rows of these types, with the keys and the rest of the condition
pub record IsJoinSpec (number : ℕ) (kind : JoinKind) (left right : List Ty) (on : Expr) (spec : JoinSpec) : Type 0 where
  pub number_is : spec.relation ≡ number
  pub kind_is : spec.kind ≡ kind
  pub keys_are : map key_of_columns spec.keys.items ≡ keys_of (length left) on
  pub rest_is : spec.rest.items ≡ rest_of (length left) on
  pub left_is : spec.left.items ≡ left
  pub right_is : spec.right.items ≡ right

-- the same without a condition
pub record IsCrossSpec (number : ℕ) (left right : List Ty) (spec : JoinSpec) : Type 0 where
  pub number_is : spec.relation ≡ number
  pub kind_is : spec.kind ≡ joins.Inner
  pub keys_are : spec.keys.items ≡ []
  pub rest_is : spec.rest.items ≡ []
  pub left_is : spec.left.items ≡ left
  pub right_is : spec.right.items ≡ right

-- a key by the column of this index
abbrev pub order_at : ℕ → SortKey → KeyOrder
order_at column key = record { column = column; descending = key.descending; nulls_first = key.nulls_first }

-- keys by columns from this index on
abbrev pub orders_from : ℕ → List SortKey → List KeyOrder
orders_from column [] = []
orders_from column (key ∷ keys) = order_at column key ∷ orders_from (column + 1) keys
