-- The results of calls: their kinds, and whether they may be null.
use Rattle.std.specs.Prelude.{ℕ, ◌+◌, List, [], ◌∷◌, Bool, true, false, Option, Some, None, ◌==◌, max}
use Rattle.std.specs.List.{list_any, list_all}
use Rattle.sub_types.specs.declared.kind.Kind.{Kind}
use Rattle.sub_types.specs.declared.kind.Kind.TheVariants as kinds
use Rattle.sub_types.specs.declared.kind.Ty.{Ty}
use Rattle.plan_typed.specs.declared.expr.Func.{Func}
use Rattle.plan_typed.specs.declared.expr.Func.TheVariants as funcs
use Rattle.func_table.specs.declared.row.ResultRule.{ResultRule}
use Rattle.func_table.specs.declared.row.ResultRule.TheVariants as results
use Rattle.func_table.specs.Entry.{Signature}
use Rattle.func_table.specs.Kinds.{is_equal, scale_of}

-- the scale that a declared decimal must have: the sum of the arguments' for a product, and else the largest
abbrev pub scale_for : Func → List Kind → ℕ
scale_for func [] = 0
scale_for func (kind ∷ []) = scale_of kind
scale_for funcs.Multiply (first ∷ second ∷ _) = scale_of first + scale_of second
scale_for func (first ∷ second ∷ _) = max (scale_of first) (scale_of second)

-- a decimal of this scale
abbrev pub is_of_scale : ℕ → Kind → Bool
is_of_scale scale (kinds.Decimal precision its_scale) = its_scale == scale
is_of_scale scale _ = false

-- the kind of the first argument
abbrev pub first_kind : List Kind → Kind
first_kind (kind ∷ _) = kind
first_kind [] = kinds.Bool

-- the result's kind where the row alone gives it
abbrev pub result_of : ResultRule → List Kind → Option Kind
result_of results.Same given = Some (first_kind given)
result_of results.Bool given = Some kinds.Bool
result_of results.I64 given = Some kinds.I64
result_of results.DeclaredDecimal given = None

-- a declared kind is the row's result
abbrev pub is_result : Signature → List Kind → Kind → Bool
is_result row given declared = elim (result_of row.result given) [
  | Some kind ↦ is_equal kind declared
  | None ↦ is_of_scale (scale_for row.func given) declared
]

-- whether a call may give null where its arguments are of these types
abbrev pub is_nullable_call : Func → List Ty → Bool
is_nullable_call funcs.IsNull types = false
is_nullable_call funcs.IsNotNull types = false
is_nullable_call funcs.IsNotDistinctFrom types = false
is_nullable_call funcs.Count types = false
is_nullable_call funcs.Coalesce types = list_all (λ ty. ty.nullable) types
is_nullable_call funcs.Nullif types = true
is_nullable_call funcs.Sum types = true
is_nullable_call funcs.Avg types = true
is_nullable_call funcs.Min types = true
is_nullable_call funcs.Max types = true
is_nullable_call _ types = list_any (λ ty. ty.nullable) types
