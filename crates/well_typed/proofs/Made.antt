-- Well-typed expressions and relations are made of well-typed parts.
use Rattle.std.proofs.Common.{◌≡◌, ℕ, List, [], ◌∷◌, Bool, map, refl, ap, subst}
use Rattle.std.specs.List.{AllByRecursion}
use Rattle.sub_types.specs.declared.kind.Ty.{Ty}
use Rattle.sub_types.specs.declared.value.Value.{Value}
use Rattle.plan_typed.specs.declared.expr.Expr.{Expr, Expr-F, every-Expr, every_made-Expr}
use Rattle.plan_typed.specs.declared.expr.Expr.TheVariants.{Const, rolls-Const, Column, rolls-Column, Call, rolls-Call, If, rolls-If, Switch, rolls-Switch, OneOf, rolls-OneOf, Cast, rolls-Cast}
use Rattle.plan_typed.specs.declared.expr.Func.{Func}
use Rattle.plan_typed.specs.declared.expr.Overflow.{Overflow}
use Rattle.well_typed.specs.ExprTyped.{IsNode, IsTypedOver}

-- each of these with what holds of it
abbrev With : {A : Type 0} → (A → Type 0) → Type 0
With {A} P = (z : A) × P z

paired : {A : Type 0} (P : A → Type 0) (xs : List A) → AllByRecursion P xs → (ys : List (With P)) × (map (λ e. e.0) ys ≡ xs)
paired P [] all = ([], refl)
paired P (x ∷ xs) all =
    let rest = paired P xs all.1 in
    ((x, all.0) ∷ rest.0, ap (λ l. x ∷ l) rest.1)

paired_arms : {A : Type 0} (P : A → Type 0) (xs : List (A × A)) → AllByRecursion (λ arm. P arm.0 × P arm.1) xs → (ys : List (With P × With P)) × (map (λ e. (e.0.0, e.1.0)) ys ≡ xs)
paired_arms P [] all = ([], refl)
paired_arms P (x ∷ xs) all =
    let rest = paired_arms P xs all.1 in
    (((x.0, all.0.0), (x.1, all.0.1)) ∷ rest.0, ap (λ l. x ∷ l) rest.1)

paired_choices : {A B : Type 0} (P : A → Type 0) (xs : List (B × A)) → AllByRecursion (λ arm. P arm.1) xs → (ys : List (B × With P)) × (map (λ e. (e.0, e.1.0)) ys ≡ xs)
paired_choices P [] all = ([], refl)
paired_choices P (x ∷ xs) all =
    let rest = paired_choices P xs all.1 in
    ((x.0, (x.1, all.0)) ∷ rest.0, ap (λ l. x ∷ l) rest.1)

module _ (columns : List Ty) where
  abbrev Typed : Expr → Type 0
  Typed expr = every-Expr (IsNode columns) expr

  pub const_typed : (value : Value) (ty : Ty) → IsNode columns (Expr-F.Const value ty) → IsTypedOver columns (Const value ty)
  const_typed value ty q = subst Typed (rolls-Const value ty) (every_made-Expr (IsNode columns) (Expr-F.Const value ty) (Expr-F.Const value ty) refl q)

  pub column_typed : (index : ℕ) (ty : Ty) → IsNode columns (Expr-F.Column index ty) → IsTypedOver columns (Column index ty)
  column_typed index ty q = subst Typed (rolls-Column index ty) (every_made-Expr (IsNode columns) (Expr-F.Column index ty) (Expr-F.Column index ty) refl q)

  pub call_typed : (func : Func) (mode : Overflow) (args : List Expr) (ty : Ty) → AllByRecursion (IsTypedOver columns) args → IsNode columns (Expr-F.Call func mode args ty) → IsTypedOver columns (Call func mode args ty)
  call_typed func mode args ty all q =
      let held = paired Typed args all in
      subst Typed (rolls-Call func mode args ty) (every_made-Expr (IsNode columns) (Expr-F.Call func mode args ty) (Expr-F.Call func mode held.0 ty) (ap (λ l. Expr-F.Call func mode l ty) held.1) q)

  pub if_typed : (arms : List (Expr × Expr)) (other : Expr) (ty : Ty) → AllByRecursion (λ arm. IsTypedOver columns arm.0 × IsTypedOver columns arm.1) arms → IsTypedOver columns other
      → IsNode columns (Expr-F.If arms other ty) → IsTypedOver columns (If arms other ty)
  if_typed arms other ty all last q =
      let held = paired_arms Typed arms all in
      subst Typed (rolls-If arms other ty) (every_made-Expr (IsNode columns) (Expr-F.If arms other ty) (Expr-F.If held.0 (other, last) ty) (ap (λ l. Expr-F.If l other ty) held.1) q)

  pub switch_typed : (subject : Expr) (arms : List (Value × Expr)) (other : Expr) (ty : Ty) → IsTypedOver columns subject → AllByRecursion (λ arm. IsTypedOver columns arm.1) arms → IsTypedOver columns other
      → IsNode columns (Expr-F.Switch subject arms other ty) → IsTypedOver columns (Switch subject arms other ty)
  switch_typed subject arms other ty first all last q =
      let held = paired_choices Typed arms all in
      subst Typed (rolls-Switch subject arms other ty) (every_made-Expr (IsNode columns) (Expr-F.Switch subject arms other ty) (Expr-F.Switch (subject, first) held.0 (other, last) ty) (ap (λ l. Expr-F.Switch subject l other ty) held.1) q)

  pub one_of_typed : (value : Expr) (options : List Expr) (ty : Ty) → IsTypedOver columns value → AllByRecursion (IsTypedOver columns) options
      → IsNode columns (Expr-F.OneOf value options ty) → IsTypedOver columns (OneOf value options ty)
  one_of_typed value options ty first all q =
      let held = paired Typed options all in
      subst Typed (rolls-OneOf value options ty) (every_made-Expr (IsNode columns) (Expr-F.OneOf value options ty) (Expr-F.OneOf (value, first) held.0 ty) (ap (λ l. Expr-F.OneOf value l ty) held.1) q)

  pub cast_typed : (input : Expr) (null_on_fail : Bool) (ty : Ty) → IsTypedOver columns input → IsNode columns (Expr-F.Cast input null_on_fail ty) → IsTypedOver columns (Cast input null_on_fail ty)
  cast_typed input null_on_fail ty first q =
      subst Typed (rolls-Cast input null_on_fail ty) (every_made-Expr (IsNode columns) (Expr-F.Cast input null_on_fail ty) (Expr-F.Cast (input, first) null_on_fail ty) refl q)
