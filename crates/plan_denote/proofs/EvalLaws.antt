-- What an expression is worth, by what is inside it.
use Rattle.std.proofs.Common.{◌≡◌, ◌∙◌, ℕ, Bool, List, [], ◌∷◌, map, slice_index_or, Ok, refl, sym, ap, rules}
use Rattle.std.proofs.lemmas.Simd.{map-map}
use Rattle.sub_types.specs.declared.kind.Ty.{Ty}
use Rattle.sub_types.specs.declared.value.Value.{Value}
use Rattle.sub_types.specs.declared.value.Value.TheVariants as values
use Rattle.plan_typed.specs.declared.expr.Expr.{Expr, Expr-F, out-Expr, roll-Expr, roll-out-Expr, the_lemmas}
use Rattle.plan_typed.specs.declared.expr.Expr.TheVariants.{rolls-Const, rolls-Column, rolls-Call, rolls-If, rolls-Switch, rolls-OneOf, rolls-Cast}
use Rattle.plan_typed.specs.declared.expr.Expr.TheVariants as e
use Rattle.plan_typed.specs.declared.expr.Func.{Func}
use Rattle.plan_typed.specs.declared.expr.Overflow.{Overflow}
use Rattle.plan_typed.specs.Types.{ty_of, ty_in}
use Rattle.plan_denote.specs.Computed.{Row, ◌>>=◌}
use Rattle.plan_denote.specs.Calls.{called}
use Rattle.plan_denote.specs.Casts.{cast, or_null}
use Rattle.plan_denote.specs.Logic.{first_true, first_equal, one_of}
use Rattle.plan_denote.specs.Eval.{Meaning, meaning, meaning_of, eval}

pub meaning-Const : (value : Value) (ty : Ty) → meaning_of (e.Const value ty) ≡ meaning (Expr-F.Const value ty)
unfolding meaning_of
meaning-Const value ty = search (rules, the_lemmas)

pub meaning-Column : (index : ℕ) (ty : Ty) → meaning_of (e.Column index ty) ≡ meaning (Expr-F.Column index ty)
unfolding meaning_of
meaning-Column index ty = search (rules, the_lemmas)

pub meaning-Call : (func : Func) (mode : Overflow) (args : List Expr) (ty : Ty) → meaning_of (e.Call func mode args ty) ≡ meaning (Expr-F.Call func mode (map meaning_of args) ty)
unfolding meaning_of
meaning-Call func mode args ty = search (rules, the_lemmas)

pub meaning-If : (arms : List (Expr × Expr)) (other : Expr) (ty : Ty) → meaning_of (e.If arms other ty) ≡ meaning (Expr-F.If (map (λ (arm : Expr × Expr). (meaning_of arm.0, meaning_of arm.1)) arms) (meaning_of other) ty)
unfolding meaning_of
meaning-If arms other ty = search (rules, the_lemmas)

pub meaning-Switch : (subject : Expr) (arms : List (Value × Expr)) (other : Expr) (ty : Ty) → meaning_of (e.Switch subject arms other ty) ≡ meaning (Expr-F.Switch (meaning_of subject) (map (λ (arm : Value × Expr). (arm.0, meaning_of arm.1)) arms) (meaning_of other) ty)
unfolding meaning_of
meaning-Switch subject arms other ty = search (rules, the_lemmas)

pub meaning-OneOf : (value : Expr) (options : List Expr) (ty : Ty) → meaning_of (e.OneOf value options ty) ≡ meaning (Expr-F.OneOf (meaning_of value) (map meaning_of options) ty)
unfolding meaning_of
meaning-OneOf value options ty = search (rules, the_lemmas)

pub meaning-Cast : (input : Expr) (null_on_fail : Bool) (ty : Ty) → meaning_of (e.Cast input null_on_fail ty) ≡ meaning (Expr-F.Cast (meaning_of input) null_on_fail ty)
unfolding meaning_of
meaning-Cast input null_on_fail ty = search (rules, the_lemmas)

typed_level : (level : Expr-F Expr) → (meaning_of (roll-Expr level)).ty ≡ ty_in level
typed_level (Expr-F.Const value ty) = rw (rolls-Const value ty, meaning-Const value ty) refl
typed_level (Expr-F.Column index ty) = rw (rolls-Column index ty, meaning-Column index ty) refl
typed_level (Expr-F.Call func mode args ty) = rw (rolls-Call func mode args ty, meaning-Call func mode args ty) refl
typed_level (Expr-F.If arms other ty) = rw (rolls-If arms other ty, meaning-If arms other ty) refl
typed_level (Expr-F.Switch subject arms other ty) = rw (rolls-Switch subject arms other ty, meaning-Switch subject arms other ty) refl
typed_level (Expr-F.OneOf value options ty) = rw (rolls-OneOf value options ty, meaning-OneOf value options ty) refl
typed_level (Expr-F.Cast input null_on_fail ty) = rw (rolls-Cast input null_on_fail ty, meaning-Cast input null_on_fail ty) refl

-- the type of a meaning is the expression's
pub typed : (expr : Expr) → (meaning_of expr).ty ≡ ty_of expr
typed expr = ap (λ one. (meaning_of one).ty) (sym (roll-out-Expr expr)) ∙ typed_level (out-Expr expr)

kinds-meanings : (args : List Expr) → map (λ (arg : Meaning). arg.ty.kind) (map meaning_of args) ≡ map (λ arg. (ty_of arg).kind) args
kinds-meanings [] = refl
kinds-meanings (arg ∷ args) = rw (typed arg, kinds-meanings args) refl

values-meanings : (row : Row) (args : List Expr) → map (λ (arg : Meaning). arg.at row) (map meaning_of args) ≡ map (λ arg. eval arg row) args
values-meanings row args = map-map _ _ args

pub eval-Const : (value : Value) (ty : Ty) (row : Row) → eval (e.Const value ty) row ≡ Ok value
eval-Const value ty row = ap (λ one. one.at row) (meaning-Const value ty)

pub eval-Column : (index : ℕ) (ty : Ty) (row : Row) → eval (e.Column index ty) row ≡ Ok (slice_index_or row index values.Null)
eval-Column index ty row = ap (λ one. one.at row) (meaning-Column index ty)

pub eval-Call : (func : Func) (mode : Overflow) (args : List Expr) (ty : Ty) (row : Row)
    → eval (e.Call func mode args ty) row ≡ called func ty.kind mode (map (λ arg. (ty_of arg).kind) args) (map (λ arg. eval arg row) args)
eval-Call func mode args ty row = ap (λ one. one.at row) (meaning-Call func mode args ty) ∙ rw (kinds-meanings args, values-meanings row args) refl

pub eval-If : (arms : List (Expr × Expr)) (other : Expr) (ty : Ty) (row : Row)
    → eval (e.If arms other ty) row ≡ first_true (map (λ (arm : Expr × Expr). (eval arm.0 row, eval arm.1 row)) arms) (eval other row)
eval-If arms other ty row = ap (λ one. one.at row) (meaning-If arms other ty) ∙ ap (λ found. first_true found (eval other row)) (map-map _ _ arms)

pub eval-Switch : (subject : Expr) (arms : List (Value × Expr)) (other : Expr) (ty : Ty) (row : Row)
    → eval (e.Switch subject arms other ty) row ≡ (eval subject row >>= (λ value. first_equal value (map (λ (arm : Value × Expr). (arm.0, eval arm.1 row)) arms) (eval other row)))
eval-Switch subject arms other ty row =
    ap (λ one. one.at row) (meaning-Switch subject arms other ty) ∙ ap (λ found. eval subject row >>= (λ value. first_equal value found (eval other row))) (map-map _ _ arms)

pub eval-OneOf : (value : Expr) (options : List Expr) (ty : Ty) (row : Row)
    → eval (e.OneOf value options ty) row ≡ (eval value row >>= (λ one. one_of one (map (λ option. eval option row) options)))
eval-OneOf value options ty row = ap (λ one. one.at row) (meaning-OneOf value options ty) ∙ ap (λ found. eval value row >>= (λ one. one_of one found)) (map-map _ _ options)

pub eval-Cast : (input : Expr) (null_on_fail : Bool) (ty : Ty) (row : Row)
    → eval (e.Cast input null_on_fail ty) row ≡ (eval input row >>= (λ value. or_null null_on_fail (cast (ty_of input).kind ty.kind value)))
eval-Cast input null_on_fail ty row = ap (λ one. one.at row) (meaning-Cast input null_on_fail ty) ∙ rw (typed input) refl
