-- Equal expressions, variant by variant.
use Rattle.std.proofs.Common.{◌≡◌, ◌∙◌, sym, ap, refl, ℕ, Bool, false, List, ◌&&◌, ◌==◌}
use Rattle.std.specs.Cmp.Lexicographic.{pointwise}
use Rattle.sub_types.specs.declared.kind.Ty.{Ty}
use Rattle.sub_types.specs.declared.value.Value.{Value}
use Rattle.plan_typed.specs.declared.expr.Func.{Func}
use Rattle.plan_typed.specs.declared.expr.Overflow.{Overflow}
use Rattle.plan_typed.specs.declared.expr.Expr.{Expr, Expr-F, out-Expr, roll-Expr, map-Expr, roll-out-Expr, out-roll-Expr}
use Rattle.plan_typed.specs.declared.expr.Expr.TheFolds.{fold-roll-Expr}
use Rattle.plan_typed.specs.declared.expr.Expr.TheVariants as exprs
use Rattle.plan_verdict.specs.Same.{same_expr, same_level, same_ty, same_value, same_bool, func_number, mode_number, arm_same, choice_same}
use Rattle.plan_rules.proofs.ListLaws.{pointwise-map_left}

same_out : (x : Expr-F Expr) (b : Expr) → same_expr (roll-Expr x) b ≡ same_level (map-Expr Expr (Expr → Bool) same_expr x) (out-Expr b)
unfolding same_expr
same_out x b = ap (λ (f : Expr → Bool). f b) (fold-roll-Expr (Expr → Bool) (λ level other. same_level level (out-Expr other)) x)

pub same_at : (a b : Expr) (x y : Expr-F Expr) → roll-Expr x ≡ a → roll-Expr y ≡ b → same_expr a b ≡ same_level (map-Expr Expr (Expr → Bool) same_expr x) y
same_at a b x y first second =
    ap (λ one. same_expr one b) (sym first) ∙ same_out x b
    ∙ ap (λ other. same_level (map-Expr Expr (Expr → Bool) same_expr x) (out-Expr other)) (sym second)
    ∙ ap (same_level (map-Expr Expr (Expr → Bool) same_expr x)) (out-roll-Expr y)

pub same_const : (a b : Expr) (value other : Value) (ty other_ty : Ty) → a ≡ exprs.Const value ty → b ≡ exprs.Const other other_ty → same_expr a b ≡ (same_value value other && same_ty ty other_ty)
same_const a b value other ty other_ty first second =
    same_at a b (Expr-F.Const value ty) (Expr-F.Const other other_ty) (exprs.rolls-Const value ty ∙ sym first) (exprs.rolls-Const other other_ty ∙ sym second)

pub same_column : (a b : Expr) (index other : ℕ) (ty other_ty : Ty) → a ≡ exprs.Column index ty → b ≡ exprs.Column other other_ty → same_expr a b ≡ (index == other && same_ty ty other_ty)
same_column a b index other ty other_ty first second =
    same_at a b (Expr-F.Column index ty) (Expr-F.Column other other_ty) (exprs.rolls-Column index ty ∙ sym first) (exprs.rolls-Column other other_ty ∙ sym second)

pub same_call : (a b : Expr) (func other : Func) (mode other_mode : Overflow) (args others : List Expr) (ty other_ty : Ty) → a ≡ exprs.Call func mode args ty → b ≡ exprs.Call other other_mode others other_ty
    → same_expr a b ≡ (func_number func == func_number other && mode_number mode == mode_number other_mode && pointwise same_expr args others && same_ty ty other_ty)
same_call a b func other mode other_mode args others ty other_ty first second =
    same_at a b (Expr-F.Call func mode args ty) (Expr-F.Call other other_mode others other_ty) (exprs.rolls-Call func mode args ty ∙ sym first) (exprs.rolls-Call other other_mode others other_ty ∙ sym second)
    ∙ ap (λ (all : Bool). func_number func == func_number other && mode_number mode == mode_number other_mode && all && same_ty ty other_ty) (pointwise-map_left (λ test expr. test expr) same_expr args others)

pub same_if : (a b : Expr) (arms other_arms : List (Expr × Expr)) (other otherwise : Expr) (ty other_ty : Ty) → a ≡ exprs.If arms other ty → b ≡ exprs.If other_arms otherwise other_ty
    → same_expr a b ≡ (pointwise (λ (arm other : Expr × Expr). same_expr arm.0 other.0 && same_expr arm.1 other.1) arms other_arms && same_expr other otherwise && same_ty ty other_ty)
same_if a b arms other_arms other otherwise ty other_ty first second =
    same_at a b (Expr-F.If arms other ty) (Expr-F.If other_arms otherwise other_ty) (exprs.rolls-If arms other ty ∙ sym first) (exprs.rolls-If other_arms otherwise other_ty ∙ sym second)
    ∙ ap (λ (all : Bool). all && same_expr other otherwise && same_ty ty other_ty) (pointwise-map_left arm_same (λ (arm : Expr × Expr). (same_expr arm.0, same_expr arm.1)) arms other_arms)

pub same_switch : (a b subject other_subject : Expr) (arms other_arms : List (Value × Expr)) (other otherwise : Expr) (ty other_ty : Ty) → a ≡ exprs.Switch subject arms other ty → b ≡ exprs.Switch other_subject other_arms otherwise other_ty
    → same_expr a b ≡ (same_expr subject other_subject && pointwise (λ (choice other : Value × Expr). same_value choice.0 other.0 && same_expr choice.1 other.1) arms other_arms && same_expr other otherwise && same_ty ty other_ty)
same_switch a b subject other_subject arms other_arms other otherwise ty other_ty first second =
    same_at a b (Expr-F.Switch subject arms other ty) (Expr-F.Switch other_subject other_arms otherwise other_ty) (exprs.rolls-Switch subject arms other ty ∙ sym first) (exprs.rolls-Switch other_subject other_arms otherwise other_ty ∙ sym second)
    ∙ ap (λ (all : Bool). same_expr subject other_subject && all && same_expr other otherwise && same_ty ty other_ty) (pointwise-map_left choice_same (λ (choice : Value × Expr). (choice.0, same_expr choice.1)) arms other_arms)

pub same_one_of : (a b value other : Expr) (options others : List Expr) (ty other_ty : Ty) → a ≡ exprs.OneOf value options ty → b ≡ exprs.OneOf other others other_ty
    → same_expr a b ≡ (same_expr value other && pointwise same_expr options others && same_ty ty other_ty)
same_one_of a b value other options others ty other_ty first second =
    same_at a b (Expr-F.OneOf value options ty) (Expr-F.OneOf other others other_ty) (exprs.rolls-OneOf value options ty ∙ sym first) (exprs.rolls-OneOf other others other_ty ∙ sym second)
    ∙ ap (λ (all : Bool). same_expr value other && all && same_ty ty other_ty) (pointwise-map_left (λ test expr. test expr) same_expr options others)

pub same_cast : (a b input other : Expr) (null other_null : Bool) (ty other_ty : Ty) → a ≡ exprs.Cast input null ty → b ≡ exprs.Cast other other_null other_ty
    → same_expr a b ≡ (same_expr input other && same_bool null other_null && same_ty ty other_ty)
same_cast a b input other null other_null ty other_ty first second =
    same_at a b (Expr-F.Cast input null ty) (Expr-F.Cast other other_null other_ty) (exprs.rolls-Cast input null ty ∙ sym first) (exprs.rolls-Cast other other_null other_ty ∙ sym second)

-- an expression of one variant equals none of another
level_const : (value : Value) (ty : Ty) (y : Expr-F Expr) (b : Expr) → roll-Expr y ≡ b → ((other_value : Value) (other_ty : Ty) → b ≡ exprs.Const other_value other_ty → ⊥) → same_level (map-Expr Expr (Expr → Bool) same_expr (Expr-F.Const value ty)) y ≡ false
level_const value ty (Expr-F.Const other_value other_ty) b is other = absurd (other other_value other_ty (sym is ∙ exprs.rolls-Const other_value other_ty))
level_const value ty _ b is other = refl

pub other_const : (a b : Expr) (value : Value) (ty : Ty) → a ≡ exprs.Const value ty → ((other_value : Value) (other_ty : Ty) → b ≡ exprs.Const other_value other_ty → ⊥) → same_expr a b ≡ false
other_const a b value ty first other =
    same_at a b (Expr-F.Const value ty) (out-Expr b) (exprs.rolls-Const value ty ∙ sym first) (roll-out-Expr b)
    ∙ level_const value ty (out-Expr b) b (roll-out-Expr b) other

level_column : (index : ℕ) (ty : Ty) (y : Expr-F Expr) (b : Expr) → roll-Expr y ≡ b → ((other_index : ℕ) (other_ty : Ty) → b ≡ exprs.Column other_index other_ty → ⊥) → same_level (map-Expr Expr (Expr → Bool) same_expr (Expr-F.Column index ty)) y ≡ false
level_column index ty (Expr-F.Column other_index other_ty) b is other = absurd (other other_index other_ty (sym is ∙ exprs.rolls-Column other_index other_ty))
level_column index ty _ b is other = refl

pub other_column : (a b : Expr) (index : ℕ) (ty : Ty) → a ≡ exprs.Column index ty → ((other_index : ℕ) (other_ty : Ty) → b ≡ exprs.Column other_index other_ty → ⊥) → same_expr a b ≡ false
other_column a b index ty first other =
    same_at a b (Expr-F.Column index ty) (out-Expr b) (exprs.rolls-Column index ty ∙ sym first) (roll-out-Expr b)
    ∙ level_column index ty (out-Expr b) b (roll-out-Expr b) other

level_call : (func : Func) (mode : Overflow) (args : List Expr) (ty : Ty) (y : Expr-F Expr) (b : Expr) → roll-Expr y ≡ b → ((other_func : Func) (other_mode : Overflow) (other_args : List Expr) (other_ty : Ty) → b ≡ exprs.Call other_func other_mode other_args other_ty → ⊥) → same_level (map-Expr Expr (Expr → Bool) same_expr (Expr-F.Call func mode args ty)) y ≡ false
level_call func mode args ty (Expr-F.Call other_func other_mode other_args other_ty) b is other = absurd (other other_func other_mode other_args other_ty (sym is ∙ exprs.rolls-Call other_func other_mode other_args other_ty))
level_call func mode args ty _ b is other = refl

pub other_call : (a b : Expr) (func : Func) (mode : Overflow) (args : List Expr) (ty : Ty) → a ≡ exprs.Call func mode args ty → ((other_func : Func) (other_mode : Overflow) (other_args : List Expr) (other_ty : Ty) → b ≡ exprs.Call other_func other_mode other_args other_ty → ⊥) → same_expr a b ≡ false
other_call a b func mode args ty first other =
    same_at a b (Expr-F.Call func mode args ty) (out-Expr b) (exprs.rolls-Call func mode args ty ∙ sym first) (roll-out-Expr b)
    ∙ level_call func mode args ty (out-Expr b) b (roll-out-Expr b) other

level_if : (arms : List (Expr × Expr)) (otherwise : Expr) (ty : Ty) (y : Expr-F Expr) (b : Expr) → roll-Expr y ≡ b → ((other_arms : List (Expr × Expr)) (other_otherwise : Expr) (other_ty : Ty) → b ≡ exprs.If other_arms other_otherwise other_ty → ⊥) → same_level (map-Expr Expr (Expr → Bool) same_expr (Expr-F.If arms otherwise ty)) y ≡ false
level_if arms otherwise ty (Expr-F.If other_arms other_otherwise other_ty) b is other = absurd (other other_arms other_otherwise other_ty (sym is ∙ exprs.rolls-If other_arms other_otherwise other_ty))
level_if arms otherwise ty _ b is other = refl

pub other_if : (a b : Expr) (arms : List (Expr × Expr)) (otherwise : Expr) (ty : Ty) → a ≡ exprs.If arms otherwise ty → ((other_arms : List (Expr × Expr)) (other_otherwise : Expr) (other_ty : Ty) → b ≡ exprs.If other_arms other_otherwise other_ty → ⊥) → same_expr a b ≡ false
other_if a b arms otherwise ty first other =
    same_at a b (Expr-F.If arms otherwise ty) (out-Expr b) (exprs.rolls-If arms otherwise ty ∙ sym first) (roll-out-Expr b)
    ∙ level_if arms otherwise ty (out-Expr b) b (roll-out-Expr b) other

level_switch : (subject : Expr) (arms : List (Value × Expr)) (otherwise : Expr) (ty : Ty) (y : Expr-F Expr) (b : Expr) → roll-Expr y ≡ b → ((other_subject : Expr) (other_arms : List (Value × Expr)) (other_otherwise : Expr) (other_ty : Ty) → b ≡ exprs.Switch other_subject other_arms other_otherwise other_ty → ⊥) → same_level (map-Expr Expr (Expr → Bool) same_expr (Expr-F.Switch subject arms otherwise ty)) y ≡ false
level_switch subject arms otherwise ty (Expr-F.Switch other_subject other_arms other_otherwise other_ty) b is other = absurd (other other_subject other_arms other_otherwise other_ty (sym is ∙ exprs.rolls-Switch other_subject other_arms other_otherwise other_ty))
level_switch subject arms otherwise ty _ b is other = refl

pub other_switch : (a b : Expr) (subject : Expr) (arms : List (Value × Expr)) (otherwise : Expr) (ty : Ty) → a ≡ exprs.Switch subject arms otherwise ty → ((other_subject : Expr) (other_arms : List (Value × Expr)) (other_otherwise : Expr) (other_ty : Ty) → b ≡ exprs.Switch other_subject other_arms other_otherwise other_ty → ⊥) → same_expr a b ≡ false
other_switch a b subject arms otherwise ty first other =
    same_at a b (Expr-F.Switch subject arms otherwise ty) (out-Expr b) (exprs.rolls-Switch subject arms otherwise ty ∙ sym first) (roll-out-Expr b)
    ∙ level_switch subject arms otherwise ty (out-Expr b) b (roll-out-Expr b) other

level_one_of : (value : Expr) (options : List Expr) (ty : Ty) (y : Expr-F Expr) (b : Expr) → roll-Expr y ≡ b → ((other_value : Expr) (other_options : List Expr) (other_ty : Ty) → b ≡ exprs.OneOf other_value other_options other_ty → ⊥) → same_level (map-Expr Expr (Expr → Bool) same_expr (Expr-F.OneOf value options ty)) y ≡ false
level_one_of value options ty (Expr-F.OneOf other_value other_options other_ty) b is other = absurd (other other_value other_options other_ty (sym is ∙ exprs.rolls-OneOf other_value other_options other_ty))
level_one_of value options ty _ b is other = refl

pub other_one_of : (a b : Expr) (value : Expr) (options : List Expr) (ty : Ty) → a ≡ exprs.OneOf value options ty → ((other_value : Expr) (other_options : List Expr) (other_ty : Ty) → b ≡ exprs.OneOf other_value other_options other_ty → ⊥) → same_expr a b ≡ false
other_one_of a b value options ty first other =
    same_at a b (Expr-F.OneOf value options ty) (out-Expr b) (exprs.rolls-OneOf value options ty ∙ sym first) (roll-out-Expr b)
    ∙ level_one_of value options ty (out-Expr b) b (roll-out-Expr b) other

level_cast : (input : Expr) (null : Bool) (ty : Ty) (y : Expr-F Expr) (b : Expr) → roll-Expr y ≡ b → ((other_input : Expr) (other_null : Bool) (other_ty : Ty) → b ≡ exprs.Cast other_input other_null other_ty → ⊥) → same_level (map-Expr Expr (Expr → Bool) same_expr (Expr-F.Cast input null ty)) y ≡ false
level_cast input null ty (Expr-F.Cast other_input other_null other_ty) b is other = absurd (other other_input other_null other_ty (sym is ∙ exprs.rolls-Cast other_input other_null other_ty))
level_cast input null ty _ b is other = refl

pub other_cast : (a b : Expr) (input : Expr) (null : Bool) (ty : Ty) → a ≡ exprs.Cast input null ty → ((other_input : Expr) (other_null : Bool) (other_ty : Ty) → b ≡ exprs.Cast other_input other_null other_ty → ⊥) → same_expr a b ≡ false
other_cast a b input null ty first other =
    same_at a b (Expr-F.Cast input null ty) (out-Expr b) (exprs.rolls-Cast input null ty ∙ sym first) (roll-out-Expr b)
    ∙ level_cast input null ty (out-Expr b) b (roll-out-Expr b) other
