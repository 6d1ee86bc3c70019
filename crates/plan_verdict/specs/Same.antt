-- When two checked expressions are equal: the same functions, modes, places, values and types.
use Rattle.std.specs.Prelude.{ℕ, List, Bool, true, false, ◌&&◌, not, ◌==◌}
use Rattle.std.specs.Ordering.{int_eq}
use Rattle.std.specs.Cmp.Lexicographic.{pointwise}
use Rattle.std.specs.Str.{bytes_eq}
use Rattle.sub_types.specs.declared.kind.Ty.{Ty}
use Rattle.sub_types.specs.declared.value.Value.{Value}
use Rattle.sub_types.specs.declared.value.Value.TheVariants as values
use Rattle.plan_typed.specs.declared.expr.Expr.{Expr, Expr-F, out-Expr, fold-Expr}
use Rattle.plan_typed.specs.declared.expr.Func.{Func}
use Rattle.plan_typed.specs.declared.expr.Func.TheVariants as funcs
use Rattle.plan_typed.specs.declared.expr.Overflow.{Overflow}
use Rattle.plan_typed.specs.declared.expr.Overflow.TheVariants as modes
use Rattle.func_table.specs.Kinds.{is_equal}

abbrev pub same_bool : Bool → Bool → Bool
same_bool true b = b
same_bool false b = not b

abbrev pub same_ty : Ty → Ty → Bool
same_ty a b = is_equal a.kind b.kind && same_bool a.nullable b.nullable

abbrev pub same_value : Value → Value → Bool
same_value values.Null values.Null = true
same_value (values.Bool a) (values.Bool b) = same_bool a b
same_value (values.Int a) (values.Int b) = int_eq a b
same_value (values.Dec a) (values.Dec b) = int_eq a b
same_value (values.Bytes a) (values.Bytes b) = bytes_eq a b
same_value _ _ = false

-- functions and modes have numbers, to tell them apart
abbrev pub func_number : Func → ℕ
func_number funcs.And = 0
func_number funcs.Or = 1
func_number funcs.Not = 2
func_number funcs.Xor = 3
func_number funcs.Equal = 4
func_number funcs.NotEqual = 5
func_number funcs.Lt = 6
func_number funcs.Lte = 7
func_number funcs.Gt = 8
func_number funcs.Gte = 9
func_number funcs.Between = 10
func_number funcs.IsNull = 11
func_number funcs.IsNotNull = 12
func_number funcs.IsNotDistinctFrom = 13
func_number funcs.Coalesce = 14
func_number funcs.Nullif = 15
func_number funcs.Add = 16
func_number funcs.Subtract = 17
func_number funcs.Multiply = 18
func_number funcs.Divide = 19
func_number funcs.Modulus = 20
func_number funcs.Negate = 21
func_number funcs.Abs = 22
func_number funcs.Sum = 23
func_number funcs.Avg = 24
func_number funcs.Min = 25
func_number funcs.Max = 26
func_number funcs.Concat = 27
func_number funcs.Substring = 28
func_number funcs.StartsWith = 29
func_number funcs.EndsWith = 30
func_number funcs.Contains = 31
func_number funcs.Like = 32
func_number funcs.CharLength = 33
func_number funcs.OctetLength = 34
func_number funcs.Count = 35

abbrev pub mode_number : Overflow → ℕ
mode_number modes.Error = 0
mode_number modes.Saturate = 1
mode_number modes.Silent = 2

-- whether each of these is equal to one of the others, in order
abbrev pub all_same : List (Expr → Bool) → List Expr → Bool
all_same tests exprs = pointwise (λ test expr. test expr) tests exprs

abbrev pub arm_same : (Expr → Bool) × (Expr → Bool) → Expr × Expr → Bool
arm_same (test, value) (other_test, other_value) = test other_test && value other_value

abbrev pub choice_same : Value × (Expr → Bool) → Value × Expr → Bool
choice_same (literal, value) (other_literal, other_value) = same_value literal other_literal && value other_value

-- whether one level of an expression is equal to another, by tests of what is inside the first
abbrev pub same_level : Expr-F (Expr → Bool) → Expr-F Expr → Bool
same_level (Expr-F.Const value ty) (Expr-F.Const other other_ty) = same_value value other && same_ty ty other_ty
same_level (Expr-F.Column index ty) (Expr-F.Column other other_ty) = index == other && same_ty ty other_ty
same_level (Expr-F.Call func mode args ty) (Expr-F.Call other_func other_mode others other_ty) =
    func_number func == func_number other_func && mode_number mode == mode_number other_mode && all_same args others && same_ty ty other_ty
same_level (Expr-F.If arms otherwise ty) (Expr-F.If other_arms other_otherwise other_ty) =
    pointwise arm_same arms other_arms && otherwise other_otherwise && same_ty ty other_ty
same_level (Expr-F.Switch subject arms otherwise ty) (Expr-F.Switch other_subject other_arms other_otherwise other_ty) =
    subject other_subject && pointwise choice_same arms other_arms && otherwise other_otherwise && same_ty ty other_ty
same_level (Expr-F.OneOf value options ty) (Expr-F.OneOf other others other_ty) = value other && all_same options others && same_ty ty other_ty
same_level (Expr-F.Cast input null_on_fail ty) (Expr-F.Cast other other_null other_ty) =
    input other && same_bool null_on_fail other_null && same_ty ty other_ty
same_level _ _ = false

-- two expressions are equal
unfoldable pub same_expr : Expr → Expr → Bool
same_expr = fold-Expr (Expr → Bool) (λ level other. same_level level (out-Expr other))
