-- The kinds of well-typed expressions and of the columns of well-typed relations are valid.
use Rattle.std.proofs.Common.{◌≡◌, ◌∙◌, ℕ, zero, suc, List, [], ◌∷◌, ◌++◌, Option, Some, None, IsTrue, map, sym, subst}
use Rattle.std.specs.Prelude.{slice_get}
use Rattle.std.specs.List.{AllByRecursion}
use Rattle.sub_types.specs.Kind.{IsKind}
use Rattle.sub_types.specs.declared.kind.Kind.{Kind}
use Rattle.sub_types.specs.declared.kind.Ty.{Ty}
use Rattle.plan_typed.specs.declared.expr.Expr.{Expr, Expr-F, out-Expr, roll-Expr, out-roll-Expr, map-Expr}
use Rattle.plan_typed.specs.declared.expr.Expr.TheFolds.{ind-Expr, every_here-Expr, every_held-Expr}
use Rattle.plan_typed.specs.Types.{ty_in, ty_of}
use Rattle.func_table.specs.declared.row.ResultRule.{ResultRule}
use Rattle.func_table.specs.declared.row.ResultRule.TheVariants as results
use Rattle.func_table.specs.Entry.{Signature}
use Rattle.well_typed.specs.ExprTyped.{IsAs, IsNode, IsResult, IsTypedOver, AreAs}
use Rattle.well_typed.specs.Results.{first_kind, result_of, is_of_scale, scale_for}
use Rattle.well_typed.specs.Types.{kind_of}
use Rattle.well_typed.specs.WellTyped.{MayBe}

-- types of valid kinds
abbrev pub AreKinds : List Ty → Type 0
AreKinds types = AllByRecursion (λ (ty : Ty). IsKind ty.kind) types

pub kind_at : (columns : List Ty) (place : ℕ) → AreKinds columns → MayBe (λ (ty : Ty). IsKind ty.kind) (slice_get columns place)
kind_at [] place all = tt
kind_at (column ∷ columns) zero all = all.0
kind_at (column ∷ columns) (suc place) all = kind_at columns place all.1

-- each of these with what holds of it
abbrev pub With : {A : Type 0} → (A → Type 0) → Type 0
With {A} P = (one : A) × P one

pub all_held : {A : Type 0} (P : A → Type 0) (xs : List (With P)) → AllByRecursion P (map (λ e. e.0) xs)
all_held P [] = tt
all_held P (x ∷ xs) = (x.1, all_held P xs)

pub all_both : {A : Type 0} (P Q R : A → Type 0) (xs : List A) → ((x : A) → P x → Q x → R x) → AllByRecursion P xs → AllByRecursion Q xs → AllByRecursion R xs
all_both P Q R [] k all others = tt
all_both P Q R (x ∷ xs) k all others = (k x all.0 others.0, all_both P Q R xs k all.1 others.1)

-- what holds of those parts of an expression whose kind its own may be
abbrev Inside : (Expr → Type 0) → Expr-F Expr → Type 0
Inside P (Expr-F.Call func mode args ty) = AllByRecursion P args
Inside P (Expr-F.If arms other ty) = P other
Inside P (Expr-F.Switch subject arms other ty) = P other
Inside P _ = Unit {0}

held_inside : (P : Expr → Type 0) (z : Expr-F (With P)) → Inside P (map-Expr (With P) Expr (λ e. e.0) z)
held_inside P (Expr-F.Const value ty) = tt
held_inside P (Expr-F.Column index ty) = tt
held_inside P (Expr-F.Call func mode args ty) = all_held P args
held_inside P (Expr-F.If arms other ty) = other.1
held_inside P (Expr-F.Switch subject arms other ty) = other.1
held_inside P (Expr-F.OneOf value options ty) = tt
held_inside P (Expr-F.Cast input null_on_fail ty) = tt

both_inside : (P Q R : Expr → Type 0) (level : Expr-F Expr) → ((one : Expr) → P one → Q one → R one) → Inside P level → Inside Q level → Inside R level
both_inside P Q R (Expr-F.Const value ty) k first second = tt
both_inside P Q R (Expr-F.Column index ty) k first second = tt
both_inside P Q R (Expr-F.Call func mode args ty) k first second = all_both P Q R args k first second
both_inside P Q R (Expr-F.If arms other ty) k first second = k other first second
both_inside P Q R (Expr-F.Switch subject arms other ty) k first second = k other first second
both_inside P Q R (Expr-F.OneOf value options ty) k first second = tt
both_inside P Q R (Expr-F.Cast input null_on_fail ty) k first second = tt

-- the result of a call over valid kinds is of one
first_valid : (given : List Kind) → AllByRecursion IsKind given → IsKind (first_kind given)
first_valid [] all = tt
first_valid (kind ∷ given) all = all.0

abbrev ResultIs : Option Kind → ℕ → Kind → Type 0
ResultIs o scale kind = elim o [ Some result ↦ kind ≡ result | None ↦ IsKind kind × IsTrue (is_of_scale scale kind) ]

result_valid : (rule : ResultRule) (scale : ℕ) (given : List Kind) (kind : Kind) → AllByRecursion IsKind given → ResultIs (result_of rule given) scale kind → IsKind kind
result_valid results.Same scale given kind all is = subst IsKind (sym is) (first_valid given all)
result_valid results.Bool scale given kind all is = subst IsKind (sym is) tt
result_valid results.I64 scale given kind all is = subst IsKind (sym is) tt
result_valid results.DeclaredDecimal scale given kind all is = is.0

pub given_valid : (args : List Expr) → AllByRecursion (λ e. IsKind (kind_of e)) args → AllByRecursion IsKind (map (λ (ty : Ty). ty.kind) (map ty_of args))
given_valid [] all = tt
given_valid (arg ∷ args) all = (all.0, given_valid args all.1)

last_as : (ty : Ty) (values : List Expr) (other : Expr) → AreAs ty (values ++ other ∷ []) → IsAs (ty_of other) ty
last_as ty [] other all = all.0
last_as ty (value ∷ values) other all = last_as ty values other all.1

pub call_valid : (row : Signature) (given : List Kind) (kind : Kind) → AllByRecursion IsKind given → IsResult row given kind → IsKind kind
call_valid row given kind all is = result_valid row.result (scale_for row.func given) given kind all is

module _ (columns : List Ty) (valid : AreKinds columns) where
  abbrev HasKind : Expr → Type 0
  HasKind expr = IsKind (kind_of expr)

  node_kind : (level : Expr-F Expr) → IsNode columns level → Inside HasKind level → IsKind (ty_in level).kind
  node_kind (Expr-F.Const value ty) node inside = node.0
  node_kind (Expr-F.Column index ty) node inside = subst IsKind (sym node.2.kind) (subst (MayBe (λ (one : Ty). IsKind one.kind)) node.1 (kind_at columns index valid))
  node_kind (Expr-F.Call func mode args ty) node inside =
      call_valid node.0.row (map (λ (one : Ty). one.kind) (map ty_of args)) ty.kind (given_valid args inside) node.1.result
  node_kind (Expr-F.If arms other ty) node inside = subst IsKind (sym (last_as ty (map (λ arm. arm.1) arms) other node.2).kind) inside
  node_kind (Expr-F.Switch subject arms other ty) node inside = subst IsKind (sym (last_as ty (map (λ arm. arm.1) arms) other node.2).kind) inside
  node_kind (Expr-F.OneOf value options ty) node inside = subst IsKind (sym node.0) tt
  node_kind (Expr-F.Cast input null_on_fail ty) node inside = node.1

  abbrev Claim : Expr → Type 0
  Claim expr = IsTypedOver columns expr → IsKind (kind_of expr)

  -- over columns of valid kinds
  pub typed_kind : (expr : Expr) → IsTypedOver columns expr → IsKind (kind_of expr)
  typed_kind = ind-Expr Claim (λ x y is typed.
      let level = out-Expr (roll-Expr x) in
      let held = every_held-Expr (IsNode columns) (roll-Expr x) typed in
      let parts = subst (Inside (IsTypedOver columns)) held.1 (held_inside (IsTypedOver columns) held.0) in
      let claims = subst (Inside Claim) (is ∙ sym (out-roll-Expr x)) (held_inside Claim y) in
      node_kind level (every_here-Expr (IsNode columns) (roll-Expr x) typed) (both_inside Claim (IsTypedOver columns) HasKind level (λ one claim known. claim known) claims parts))
