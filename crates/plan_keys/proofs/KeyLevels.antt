-- The key of an expression, variant by variant.
use Rattle.std.proofs.Common.{◌≡◌, ◌∙◌, sym, ap, ℕ, ℤ, pos, Bool, List, [], ◌∷◌, ◌++◌, map, length}
use Rattle.std.specs.List.{flat_map}
use Rattle.std.proofs.lemmas.List.{length-map}
use Rattle.std.proofs.lemmas.List.Folds.{flat_map-map}
use Rattle.sub_types.specs.declared.kind.Ty.{Ty}
use Rattle.sub_types.specs.declared.value.Value.{Value}
use Rattle.plan_typed.specs.declared.expr.Func.{Func}
use Rattle.plan_typed.specs.declared.expr.Overflow.{Overflow}
use Rattle.plan_typed.specs.declared.expr.Expr.{Expr, Expr-F, roll-Expr, map-Expr}
use Rattle.plan_typed.specs.declared.expr.Expr.TheFolds.{fold-roll-Expr}
use Rattle.plan_typed.specs.declared.expr.Expr.TheVariants as exprs
use Rattle.plan_keys.specs.Keys.{expr_key, level_key, ty_key, value_key, call_key, list_key, arm_key, choice_key, truth_number}

key_out : (x : Expr-F Expr) → expr_key (roll-Expr x) ≡ level_key (map-Expr Expr (List ℤ) expr_key x)
unfolding expr_key
key_out x = fold-roll-Expr (List ℤ) level_key x

pub key_at : (a : Expr) (x : Expr-F Expr) → roll-Expr x ≡ a → expr_key a ≡ level_key (map-Expr Expr (List ℤ) expr_key x)
key_at a x is = ap expr_key (sym is) ∙ key_out x

-- the key of a list by the things themselves
list_at : {X Y : Type 0} (key : Y → List ℤ) (part : X → Y) (xs : List X) → list_key key (map part xs) ≡ pos (length xs) ∷ flat_map (λ x. key (part x)) xs
list_at key part xs = ap (λ n. pos n ∷ flat_map key (map part xs)) (length-map xs part) ∙ ap (λ rest. pos (length xs) ∷ rest) (flat_map-map key part xs)

pub key_const : (a : Expr) (value : Value) (ty : Ty) → a ≡ exprs.Const value ty → pos 0 ∷ ty_key ty ++ value_key value ≡ expr_key a
key_const a value ty is = sym (key_at a (Expr-F.Const value ty) (exprs.rolls-Const value ty ∙ sym is))

pub key_column : (a : Expr) (index : ℕ) (ty : Ty) → a ≡ exprs.Column index ty → pos 1 ∷ ty_key ty ++ pos index ∷ [] ≡ expr_key a
key_column a index ty is = sym (key_at a (Expr-F.Column index ty) (exprs.rolls-Column index ty ∙ sym is))

pub key_call : (a : Expr) (func : Func) (mode : Overflow) (args : List Expr) (ty : Ty) → a ≡ exprs.Call func mode args ty
    → pos 2 ∷ ty_key ty ++ call_key func mode ++ (pos (length args) ∷ flat_map expr_key args) ≡ expr_key a
key_call a func mode args ty is =
    sym (key_at a (Expr-F.Call func mode args ty) (exprs.rolls-Call func mode args ty ∙ sym is)
    ∙ ap (λ all. pos 2 ∷ ty_key ty ++ call_key func mode ++ all) (list_at (λ key. key) expr_key args))

pub key_if : (a : Expr) (arms : List (Expr × Expr)) (other : Expr) (ty : Ty) → a ≡ exprs.If arms other ty
    → pos 3 ∷ ty_key ty ++ (pos (length arms) ∷ flat_map (λ (arm : Expr × Expr). expr_key arm.0 ++ expr_key arm.1) arms) ++ expr_key other ≡ expr_key a
key_if a arms other ty is =
    sym (key_at a (Expr-F.If arms other ty) (exprs.rolls-If arms other ty ∙ sym is)
    ∙ ap (λ all. pos 3 ∷ ty_key ty ++ all ++ expr_key other) (list_at arm_key (λ (arm : Expr × Expr). (expr_key arm.0, expr_key arm.1)) arms))

pub key_switch : (a subject : Expr) (arms : List (Value × Expr)) (other : Expr) (ty : Ty) → a ≡ exprs.Switch subject arms other ty
    → pos 4 ∷ ty_key ty ++ expr_key subject ++ (pos (length arms) ∷ flat_map (λ (arm : Value × Expr). value_key arm.0 ++ expr_key arm.1) arms) ++ expr_key other ≡ expr_key a
key_switch a subject arms other ty is =
    sym (key_at a (Expr-F.Switch subject arms other ty) (exprs.rolls-Switch subject arms other ty ∙ sym is)
    ∙ ap (λ all. pos 4 ∷ ty_key ty ++ expr_key subject ++ all ++ expr_key other) (list_at choice_key (λ (arm : Value × Expr). (arm.0, expr_key arm.1)) arms))

pub key_one_of : (a value : Expr) (options : List Expr) (ty : Ty) → a ≡ exprs.OneOf value options ty
    → pos 5 ∷ ty_key ty ++ expr_key value ++ (pos (length options) ∷ flat_map expr_key options) ≡ expr_key a
key_one_of a value options ty is =
    sym (key_at a (Expr-F.OneOf value options ty) (exprs.rolls-OneOf value options ty ∙ sym is)
    ∙ ap (λ all. pos 5 ∷ ty_key ty ++ expr_key value ++ all) (list_at (λ key. key) expr_key options))

pub key_cast : (a input : Expr) (null : Bool) (ty : Ty) → a ≡ exprs.Cast input null ty → pos 6 ∷ ty_key ty ++ (truth_number null ∷ expr_key input) ≡ expr_key a
key_cast a input null ty is = sym (key_at a (Expr-F.Cast input null ty) (exprs.rolls-Cast input null ty ∙ sym is))
