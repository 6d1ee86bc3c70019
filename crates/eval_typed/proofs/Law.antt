-- What a well-typed expression is worth at a row that fits its columns fits its type.
use Rattle.std.proofs.Common.{◌≡◌, ◌∙◌, ℕ, zero, suc, List, [], ◌∷◌, ◌++◌, Some, IfOk, IsTrue, map, slice_get, slice_index_or, sym, ap, subst}
use Rattle.std.specs.List.{AllByRecursion}
use Rattle.std.proofs.lemmas.Simd.{map-map}
use Rattle.sub_types.specs.Value.{FitsTy, Fits}
use Rattle.sub_types.specs.declared.kind.Kind.{Kind}
use Rattle.sub_types.specs.declared.kind.Ty.{Ty}
use Rattle.sub_types.specs.declared.value.Value.{Value}
use Rattle.sub_types.specs.declared.value.Value.TheVariants as values
use Rattle.plan_typed.specs.declared.expr.Expr.{Expr, Expr-F, out-Expr, roll-Expr, out-roll-Expr, roll-out-Expr, map-Expr}
use Rattle.plan_typed.specs.declared.expr.Expr.TheFolds.{ind-Expr, every_here-Expr, every_held-Expr}
use Rattle.plan_typed.specs.declared.expr.Expr.TheVariants.{rolls-Const, rolls-Column, rolls-Call, rolls-If, rolls-Switch, rolls-OneOf, rolls-Cast}
use Rattle.plan_typed.specs.declared.expr.Func.{Func}
use Rattle.plan_typed.specs.declared.expr.Overflow.{Overflow}
use Rattle.plan_typed.specs.Types.{ty_in, ty_of}
use Rattle.well_typed.specs.ExprTyped.{IsAs, IsNode, IsTypedOver, AreAs}
use Rattle.well_typed.proofs.ValidKinds.{With, all_held, all_both}
use Rattle.plan_denote.specs.Computed.{Computed, collect}
use Rattle.plan_denote.specs.Logic.{first_equal, one_of}
use Rattle.plan_denote.specs.Calls.{called}
use Rattle.plan_denote.specs.Casts.{cast, or_null}
use Rattle.plan_denote.specs.Eval.{eval}
use Rattle.plan_denote.proofs.EvalLaws.{eval-Const, eval-Column, eval-Call, eval-If, eval-Switch, eval-OneOf, eval-Cast}
use Rattle.eval_typed.proofs.Fit.{IsOf, AreOf, moved, moved_of, then_of, collected}
use Rattle.eval_typed.proofs.LogicLaws.{one_of_fits, first_true_fits, first_equal_fits}
use Rattle.eval_typed.proofs.CallLaws.{call_fits}
use Rattle.eval_typed.proofs.CastLaws.{cast_fits}

-- what holds of the parts of an expression
abbrev Inside : (Expr → Type 0) → Expr-F Expr → Type 0
Inside P (Expr-F.Const value ty) = Unit {0}
Inside P (Expr-F.Column index ty) = Unit {0}
Inside P (Expr-F.Call func mode args ty) = AllByRecursion P args
Inside P (Expr-F.If arms other ty) = AllByRecursion (λ (arm : Expr × Expr). P arm.1) arms × P other
Inside P (Expr-F.Switch subject arms other ty) = P subject × AllByRecursion (λ (arm : Value × Expr). P arm.1) arms × P other
Inside P (Expr-F.OneOf value options ty) = P value × AllByRecursion P options
Inside P (Expr-F.Cast input null_on_fail ty) = P input

arms_held : {X Y : Type 0} (P : Expr → Type 0) (first : X → Y) (arms : List (X × With P)) → AllByRecursion (λ (arm : Y × Expr). P arm.1) (map (λ arm. (first arm.0, arm.1.0)) arms)
arms_held P first [] = tt
arms_held P first (arm ∷ arms) = (arm.1.1, arms_held P first arms)

held_inside : (P : Expr → Type 0) (z : Expr-F (With P)) → Inside P (map-Expr (With P) Expr (λ e. e.0) z)
held_inside P (Expr-F.Const value ty) = tt
held_inside P (Expr-F.Column index ty) = tt
held_inside P (Expr-F.Call func mode args ty) = all_held P args
held_inside P (Expr-F.If arms other ty) = (arms_held P (λ (e : With P). e.0) arms, other.1)
held_inside P (Expr-F.Switch subject arms other ty) = (subject.1, arms_held P (λ (value : Value). value) arms, other.1)
held_inside P (Expr-F.OneOf value options ty) = (value.1, all_held P options)
held_inside P (Expr-F.Cast input null_on_fail ty) = input.1

arms_both : {Y : Type 0} (P Q R : Expr → Type 0) (arms : List (Y × Expr)) → ((one : Expr) → P one → Q one → R one)
    → AllByRecursion (λ (arm : Y × Expr). P arm.1) arms → AllByRecursion (λ (arm : Y × Expr). Q arm.1) arms → AllByRecursion (λ (arm : Y × Expr). R arm.1) arms
arms_both {Y} P Q R arms k all others = all_both (λ (arm : Y × Expr). P arm.1) (λ (arm : Y × Expr). Q arm.1) (λ (arm : Y × Expr). R arm.1) arms (λ arm. k arm.1) all others

both_inside : (P Q R : Expr → Type 0) (level : Expr-F Expr) → ((one : Expr) → P one → Q one → R one) → Inside P level → Inside Q level → Inside R level
both_inside P Q R (Expr-F.Const value ty) k first second = tt
both_inside P Q R (Expr-F.Column index ty) k first second = tt
both_inside P Q R (Expr-F.Call func mode args ty) k first second = all_both P Q R args k first second
both_inside P Q R (Expr-F.If arms other ty) k first second = (arms_both P Q R arms k first.0 second.0, k other first.1 second.1)
both_inside P Q R (Expr-F.Switch subject arms other ty) k first second = (k subject first.0 second.0, arms_both P Q R arms k first.1 second.1, k other first.2 second.2)
both_inside P Q R (Expr-F.OneOf value options ty) k first second = (k value first.0 second.0, all_both P Q R options k first.1 second.1)
both_inside P Q R (Expr-F.Cast input null_on_fail ty) k first second = k input first second

some_same : (a b : Ty) → Some a ≡ Some b → a ≡ b
some_same a b same = cc

-- the value of a column
column_fits : (columns : List Ty) (row : List Value) (index : ℕ) (column : Ty) → Fits columns row → slice_get columns index ≡ Some column → FitsTy column (slice_index_or row index values.Null)
column_fits [] row index column fits is = absurd (cc)
column_fits (t ∷ columns) [] index column fits is = absurd fits
column_fits (t ∷ columns) (value ∷ row) zero column fits is = subst (λ (one : Ty). FitsTy one value) (some_same t column is) fits.0
column_fits (t ∷ columns) (value ∷ row) (suc index) column fits is = column_fits columns row index column fits.1 is

module _ (row : List Value) where
  -- an expression's value
  abbrev HasValue : Expr → Type 0
  HasValue expr = IsOf (ty_of expr) (eval expr row)

  are_of : (exprs : List Expr) → AllByRecursion HasValue exprs → AreOf (map ty_of exprs) (map (λ expr. eval expr row) exprs)
  are_of [] all = tt
  are_of (expr ∷ exprs) all = (all.0, are_of exprs all.1)

  as_implied : (ty : Ty) (expr : Expr) → IsAs (ty_of expr) ty → HasValue expr → IsOf ty (eval expr row)
  as_implied ty expr implied value = moved_of (ty_of expr) ty (eval expr row) implied.kind implied.nullable value

  -- the values of arms, and of what is chosen where none is
  arms_fit : {X Y : Type 0} (ty : Ty) (first : X → Y) (arms : List (X × Expr)) (other : Expr) → AllByRecursion (λ (arm : X × Expr). HasValue arm.1) arms → AreAs ty (map (λ arm. arm.1) arms ++ other ∷ [])
      → AllByRecursion (λ (arm : Y × Computed). IsOf ty arm.1) (map (λ (arm : X × Expr). (first arm.0, eval arm.1 row)) arms)
  arms_fit ty first [] other all implied = tt
  arms_fit ty first (arm ∷ arms) other all implied = (as_implied ty arm.1 implied.0 all.0, arms_fit ty first arms other all.1 implied.1)

  other_fits : {X : Type 0} (ty : Ty) (arms : List (X × Expr)) (other : Expr) → HasValue other → AreAs ty (map (λ arm. arm.1) arms ++ other ∷ []) → IsOf ty (eval other row)
  other_fits ty [] other value implied = as_implied ty other implied.0 value
  other_fits ty (arm ∷ arms) other value implied = other_fits ty arms other value implied.1

  -- whether the options may be null
  nullables : (ty : Ty) (options : List Expr) → AllByRecursion (λ one. IsTrue (ty_of one).nullable → IsTrue ty.nullable) options → AllByRecursion (λ (one : Ty). IsTrue one.nullable → IsTrue ty.nullable) (map ty_of options)
  nullables ty [] all = tt
  nullables ty (option ∷ options) all = (all.0, nullables ty options all.1)

  -- a level, by the variant that it rolls into
  by_level : (level : Expr-F Expr) (expr : Expr) (computed : Computed) → roll-Expr level ≡ expr → eval expr row ≡ computed → IsOf (ty_in level) computed → IsOf (ty_in level) (eval (roll-Expr level) row)
  by_level level expr computed rolls is fits = subst (IsOf (ty_in level)) (sym (ap (λ one. eval one row) rolls ∙ is)) fits

  -- a call, by the kinds of its arguments
  call_of : (func : Func) (mode : Overflow) (args : List Expr) (ty : Ty) → IsOf ty (called func ty.kind mode (map (λ (one : Ty). one.kind) (map ty_of args)) (map (λ arg. eval arg row) args))
      → IsOf ty (called func ty.kind mode (map (λ arg. (ty_of arg).kind) args) (map (λ arg. eval arg row) args))
  call_of func mode args ty fits = subst (λ (given : List Kind). IsOf ty (called func ty.kind mode given (map (λ arg. eval arg row) args))) (map-map _ _ args) fits

  module _ (columns : List Ty) (row_fits : Fits columns row) where
    level_fits : (level : Expr-F Expr) → IsNode columns level → Inside HasValue level → IsOf (ty_in level) (eval (roll-Expr level) row)
    level_fits (Expr-F.Const value ty) node inside = by_level (Expr-F.Const value ty) _ _ (rolls-Const value ty) (eval-Const value ty row) node.1
    level_fits (Expr-F.Column index ty) node inside =
        by_level (Expr-F.Column index ty) _ _ (rolls-Column index ty) (eval-Column index ty row)
        (moved node.0 ty (slice_index_or row index values.Null) node.2.kind node.2.nullable (column_fits columns row index node.0 row_fits node.1))
    level_fits (Expr-F.Call func mode args ty) node inside =
        by_level (Expr-F.Call func mode args ty) _ _ (rolls-Call func mode args ty) (eval-Call func mode args ty row)
        (call_of func mode args ty (call_fits func mode (map ty_of args) ty node.0 node.1 (map (λ arg. eval arg row) args) (are_of args inside)))
    level_fits (Expr-F.If arms other ty) node inside =
        by_level (Expr-F.If arms other ty) _ _ (rolls-If arms other ty) (eval-If arms other ty row)
        (first_true_fits ty (map (λ (arm : Expr × Expr). (eval arm.0 row, eval arm.1 row)) arms) (eval other row)
        (arms_fit ty (λ (condition : Expr). eval condition row) arms other inside.0 node.2) (other_fits ty arms other inside.1 node.2))
    level_fits (Expr-F.Switch subject arms other ty) node inside =
        by_level (Expr-F.Switch subject arms other ty) _ _ (rolls-Switch subject arms other ty) (eval-Switch subject arms other ty row)
        (then_of (FitsTy (ty_of subject)) (eval subject row) (λ value. first_equal value (map (λ (arm : Value × Expr). (arm.0, eval arm.1 row)) arms) (eval other row)) ty inside.0 (λ value _.
        first_equal_fits ty value (map (λ (arm : Value × Expr). (arm.0, eval arm.1 row)) arms) (eval other row) (arms_fit ty (λ (literal : Value). literal) arms other inside.1 node.2) (other_fits ty arms other inside.2 node.2)))
    level_fits (Expr-F.OneOf value options ty) node inside =
        by_level (Expr-F.OneOf value options ty) _ _ (rolls-OneOf value options ty) (eval-OneOf value options ty row)
        (then_of (FitsTy (ty_of value)) (eval value row) (λ one. one_of one (map (λ option. eval option row) options)) ty inside.0 (λ one fits.
        one_of_fits (ty_of value) ty one (map ty_of options) (map (λ option. eval option row) options) node.0 fits node.2.0 (are_of options inside.1) (nullables ty options node.2.1)))
    level_fits (Expr-F.Cast input null_on_fail ty) node inside =
        by_level (Expr-F.Cast input null_on_fail ty) _ _ (rolls-Cast input null_on_fail ty) (eval-Cast input null_on_fail ty row)
        (then_of (FitsTy (ty_of input)) (eval input row) (λ value. or_null null_on_fail (cast (ty_of input).kind ty.kind value)) ty inside (λ value fits.
        cast_fits (ty_of input) ty null_on_fail value node.0 node.2 node.3 fits))

    abbrev Claim : Expr → Type 0
    Claim expr = IsTypedOver columns expr → HasValue expr

    value_fits : (expr : Expr) → IsTypedOver columns expr → HasValue expr
    value_fits = ind-Expr Claim (λ x y is typed.
        let level = out-Expr (roll-Expr x) in
        let held = every_held-Expr (IsNode columns) (roll-Expr x) typed in
        let parts = subst (Inside (IsTypedOver columns)) held.1 (held_inside (IsTypedOver columns) held.0) in
        let claims = subst (Inside Claim) (is ∙ sym (out-roll-Expr x)) (held_inside Claim y) in
        let inside = both_inside Claim (IsTypedOver columns) HasValue level (λ one claim known. claim known) claims parts in
        subst (λ (one : Expr). IsOf (ty_in level) (eval one row)) (roll-out-Expr (roll-Expr x)) (level_fits level (every_here-Expr (IsNode columns) (roll-Expr x) typed) inside))

    all_values : (exprs : List Expr) → AllByRecursion (IsTypedOver columns) exprs → AllByRecursion HasValue exprs
    all_values [] all = tt
    all_values (expr ∷ exprs) all = (value_fits expr all.0, all_values exprs all.1)

-- what one well-typed expression is worth
pub law_of_types : (columns : List Ty) (expr : Expr) → IsTypedOver columns expr → (row : List Value) → Fits columns row → IfOk (eval expr row) (λ value. FitsTy (ty_of expr) value)
law_of_types columns expr typed row fits = value_fits row columns fits expr typed

-- and what several are
pub law_of_rows : (columns : List Ty) (exprs : List Expr) → AllByRecursion (IsTypedOver columns) exprs → (row : List Value) → Fits columns row
    → IfOk (collect (map (λ expr. eval expr row) exprs)) (λ values. Fits (map ty_of exprs) values)
law_of_rows columns exprs typed row fits = collected (map ty_of exprs) (map (λ expr. eval expr row) exprs) (are_of row exprs (all_values row columns fits exprs typed))
