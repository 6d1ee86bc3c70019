-- Choices, membership and casts over the two columns are well typed.
use Rattle.std.proofs.Common.{◌≡◌, ◌∙◌, ℤ, List, [], ◌∷◌, Bool, IsTrue, refl, sym, ap, subst}
use Rattle.std.specs.Prelude.{FitsSigned}
use Rattle.std.specs.Int.{w64}
use Rattle.sub_types.specs.declared.kind.Kind.{Kind}
use Rattle.sub_types.specs.declared.kind.Kind.TheVariants as kinds
use Rattle.sub_types.specs.declared.kind.Ty.{Ty}
use Rattle.sub_types.specs.declared.value.Value.{Value}
use Rattle.sub_types.specs.declared.value.Value.TheVariants as values
use Rattle.plan_typed.specs.declared.expr.Expr.{Expr, Expr-F}
use Rattle.plan_typed.specs.declared.expr.Expr.TheVariants as e
use Rattle.plan_typed.specs.declared.expr.Expr.TheVariants.{rolls-If, rolls-Switch, rolls-OneOf, rolls-Cast}
use Rattle.plan_typed.specs.Types.{ty_of}
use Rattle.well_typed.specs.Casts.{can_cast}
use Rattle.well_typed.specs.Types.{kind_of}
use Rattle.well_typed.specs.ExprTyped.{IsAs, IsOfKind}
use Rattle.well_typed.proofs.Made.{if_typed, switch_typed, one_of_typed, cast_typed}
use Rattle.batch_nodes.proofs.TypedLaws.{type_in}
use Rattle.eval_batch_tests.specs.Typed.{number, truth, byte, numbers, IsOver}

kind_is : (ty : Ty) (expr : Expr) → IsOver ty expr → kind_of expr ≡ ty.kind
kind_is ty expr is = ap (λ (one : Ty). one.kind) is.ty_is

is_as : (ty : Ty) (expr : Expr) → IsOver ty expr → IsAs (ty_of expr) ty
is_as ty expr is = subst (λ (implied : Ty). IsAs implied ty) (sym is.ty_is) (record { kind = refl; nullable = λ yes. yes })

pub choice_is : (condition value other : Expr) → IsOver truth condition → IsOver number value → IsOver number other → IsOver number (e.If ((condition, value) ∷ []) other number)
choice_is condition value other tested taken rest =
    let arms : List (Expr × Expr) = (condition, value) ∷ [] in
    record {
      typed = if_typed numbers arms other number ((tested.typed, taken.typed), tt) rest.typed
          (tt, (kind_is truth condition tested, tt), (is_as number value taken, (is_as number other rest, tt)));
      ty_is = sym (type_in (Expr-F.If arms other number) (e.If arms other number) (rolls-If arms other number));
    }

pub switch_is : (subject : Expr) (n : ℤ) (value other : Expr) → FitsSigned w64 n → IsOver number subject → IsOver number value → IsOver number other → IsOver number (e.Switch subject ((values.Int n, value) ∷ []) other number)
switch_is subject n value other fits looked taken rest =
    let arms : List (Value × Expr) = (values.Int n, value) ∷ [] in
    let literal = subst (λ (kind : Kind). IsOfKind kind (values.Int n)) (sym (kind_is number subject looked)) (record { in_kind = fits; short = tt; allowed = λ is. refl }) in
    record {
      typed = switch_typed numbers subject arms other number looked.typed (taken.typed, tt) rest.typed
          (tt, (literal, tt), (is_as number value taken, (is_as number other rest, tt)));
      ty_is = sym (type_in (Expr-F.Switch subject arms other number) (e.Switch subject arms other number) (rolls-Switch subject arms other number));
    }

pub among_is : (value a b : Expr) → IsOver number value → IsOver number a → IsOver number b → IsOver truth (e.OneOf value (a ∷ b ∷ []) truth)
among_is value a b sought first second =
    let same = sym (kind_is number value sought) in
    record {
      typed = one_of_typed numbers value (a ∷ b ∷ []) truth sought.typed (first.typed, (second.typed, tt))
          (refl, (kind_is number a first ∙ same, (kind_is number b second ∙ same, tt)), (λ yes. refl, (λ yes. refl, (λ yes. refl, tt))));
      ty_is = sym (type_in (Expr-F.OneOf value (a ∷ b ∷ []) truth) (e.OneOf value (a ∷ b ∷ []) truth) (rolls-OneOf value (a ∷ b ∷ []) truth));
    }

pub in_byte_is : (input : Expr) (null_on_fail : Bool) → IsOver number input → IsOver byte (e.Cast input null_on_fail byte)
in_byte_is input null_on_fail is = record {
  typed = cast_typed numbers input null_on_fail byte is.typed
      (subst (λ (kind : Kind). IsTrue (can_cast kind kinds.I8)) (sym (kind_is number input is)) refl, tt, λ yes. refl, λ yes. refl);
  ty_is = sym (type_in (Expr-F.Cast input null_on_fail byte) (e.Cast input null_on_fail byte) (rolls-Cast input null_on_fail byte));
}
