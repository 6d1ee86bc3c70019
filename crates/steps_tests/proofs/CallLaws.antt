-- Columns, constants and calls over the two columns are well typed.
use Rattle.std.proofs.Common.{inl, ◌≡◌, ◌∙◌, ◌<◌, ℕ, ℤ, List, [], ◌∷◌, Bool, length, get_or, refl, sym, ap, ap₂, subst, arith}
use Rattle.std.specs.Prelude.{FitsSigned, codes}
use Rattle.std.specs.Int.{w64}
use Rattle.std.specs.List.{Contains}
use Rattle.sub_types.specs.declared.kind.Ty.{Ty}
use Rattle.sub_types.specs.declared.value.Value.TheVariants as values
use Rattle.plan_typed.specs.declared.expr.Expr.{Expr, Expr-F, roll-Expr, out-roll-Expr}
use Rattle.plan_typed.specs.declared.expr.Expr.TheVariants as e
use Rattle.plan_typed.specs.declared.expr.Expr.TheVariants.{rolls-Const, rolls-Column, rolls-Call, rolls-If}
use Rattle.plan_typed.specs.declared.expr.Func.{Func}
use Rattle.plan_typed.specs.declared.expr.Func.TheVariants as funcs
use Rattle.plan_typed.specs.declared.expr.Overflow.TheVariants as modes
use Rattle.plan_typed.specs.Types.{ty_in, ty_of}
use Rattle.func_table.specs.declared.row.Class.TheVariants.{Scalar}
use Rattle.func_table.specs.Entry.{Entry, AnyNumber}
use Rattle.func_table.specs.Table.{table, boolean, test, bool}
use Rattle.well_typed.specs.Types.{kind_of}
use Rattle.well_typed.specs.ExprTyped.{IsAs, IsCall}
use Rattle.well_typed.proofs.Made.{const_typed, column_typed, call_typed, if_typed}
use Rattle.steps_tests.specs.Typed.{number, truth, numbers, IsOver}

-- the type of an expression by its outer level
type_in : (level : Expr-F Expr) (expr : Expr) → roll-Expr level ≡ expr → ty_in level ≡ ty_of expr
type_in level expr is = ap ty_in (sym (out-roll-Expr level)) ∙ ap ty_of is

pub first_is : IsOver number (e.Column 0 number)
first_is = record {
  typed = column_typed numbers 0 number (number, refl, record { kind = refl; nullable = λ is_so. is_so });
  ty_is = sym (type_in (Expr-F.Column 0 number) (e.Column 0 number) (rolls-Column 0 number));
}

pub second_is : IsOver number (e.Column 1 number)
second_is = record {
  typed = column_typed numbers 1 number (number, refl, record { kind = refl; nullable = λ is_so. is_so });
  ty_is = sym (type_in (Expr-F.Column 1 number) (e.Column 1 number) (rolls-Column 1 number));
}

pub number_is : (n : ℤ) → FitsSigned w64 n → IsOver number (e.Const (values.Int n) number)
number_is n fits = record {
  typed = const_typed numbers (values.Int n) number (tt, record { in_kind = fits; short = tt; allowed = λ is. refl });
  ty_is = sym (type_in (Expr-F.Const (values.Int n) number) (e.Const (values.Int n) number) (rolls-Const (values.Int n) number));
}

pub truth_is : (truth_value : Bool) → IsOver truth (e.Const (values.Bool truth_value) truth)
truth_is truth_value = record {
  typed = const_typed numbers (values.Bool truth_value) truth (tt, record { in_kind = tt; short = tt; allowed = λ is. refl });
  ty_is = sym (type_in (Expr-F.Const (values.Bool truth_value) truth) (e.Const (values.Bool truth_value) truth) (rolls-Const (values.Bool truth_value) truth));
}

pub unknown_is : IsOver truth (e.Const values.Null truth)
unknown_is = record {
  typed = const_typed numbers values.Null truth (tt, record { in_kind = tt; short = tt; allowed = λ is. refl });
  ty_is = sym (type_in (Expr-F.Const values.Null truth) (e.Const values.Null truth) (rolls-Const values.Null truth));
}

-- a call of an entry of the table
call_is : (func : Func) (a b : Expr) (one two ty : Ty) (entry : Entry) → IsOver one a → IsOver two b → IsCall Scalar func (one ∷ two ∷ []) ty entry → IsOver ty (e.Call func modes.Error (a ∷ b ∷ []) ty)
call_is func a b one two ty entry first second call = record {
  typed = call_typed numbers func modes.Error (a ∷ b ∷ []) ty (first.typed, (second.typed, tt))
      (entry, subst (λ (given : List Ty). IsCall Scalar func given ty entry) (ap₂ (λ (s t : Ty). s ∷ t ∷ []) (sym first.ty_is) (sym second.ty_is)) call, inl refl);
  ty_is = sym (type_in (Expr-F.Call func modes.Error (a ∷ b ∷ []) ty) (e.Call func modes.Error (a ∷ b ∷ []) ty) (rolls-Call func modes.Error (a ∷ b ∷ []) ty));
}

long : length table ≡ 86
unfolding table
long = refl

listed_at : (k : ℕ) (entry : Entry) → k < 86 → get_or table k entry ≡ entry → Contains table entry
listed_at k entry below at = (k, subst (λ n. k < n) (sym long) below, at)

abbrev equal_entry : Entry
equal_entry = test (codes "equal") 2 funcs.Equal

abbrev above_entry : Entry
above_entry = test (codes "gt") 2 funcs.Gt

abbrev sum_entry : Entry
sum_entry = get_or table 19 equal_entry

abbrev quotient_entry : Entry
quotient_entry = get_or table 31 equal_entry

abbrev both_entry : Entry
both_entry = boolean (codes "and") (AnyNumber bool) funcs.And

abbrev either_entry : Entry
either_entry = boolean (codes "or") (AnyNumber bool) funcs.Or

equal_listed : get_or table 4 equal_entry ≡ equal_entry
unfolding table
equal_listed = refl

above_listed : get_or table 8 above_entry ≡ above_entry
unfolding table
above_listed = refl

sum_listed : get_or table 19 sum_entry ≡ sum_entry
unfolding table
sum_listed = refl

quotient_listed : get_or table 31 quotient_entry ≡ quotient_entry
unfolding table
quotient_listed = refl

both_listed : get_or table 0 both_entry ≡ both_entry
unfolding table
both_listed = refl

either_listed : get_or table 1 either_entry ≡ either_entry
unfolding table
either_listed = refl

pub equal_is : (a b : Expr) → IsOver number a → IsOver number b → IsOver truth (e.Call funcs.Equal modes.Error (a ∷ b ∷ []) truth)
equal_is a b first second = call_is funcs.Equal a b number number truth equal_entry first second
    (record { function = refl; takes = record { listed = listed_at 4 equal_entry (omega arith) equal_listed; of_class = refl; kinds = refl; alike = refl }; result = refl; nullable = λ is_so. refl })

pub above_is : (a b : Expr) → IsOver number a → IsOver number b → IsOver truth (e.Call funcs.Gt modes.Error (a ∷ b ∷ []) truth)
above_is a b first second = call_is funcs.Gt a b number number truth above_entry first second
    (record { function = refl; takes = record { listed = listed_at 8 above_entry (omega arith) above_listed; of_class = refl; kinds = refl; alike = refl }; result = refl; nullable = λ is_so. refl })

pub sum_is : (a b : Expr) → IsOver number a → IsOver number b → IsOver number (e.Call funcs.Add modes.Error (a ∷ b ∷ []) number)
unfolding table
sum_is a b first second = call_is funcs.Add a b number number number sum_entry first second
    (record { function = refl; takes = record { listed = listed_at 19 sum_entry (omega arith) sum_listed; of_class = refl; kinds = refl; alike = refl }; result = refl; nullable = λ is_so. refl })

pub quotient_is : (a b : Expr) → IsOver number a → IsOver number b → IsOver number (e.Call funcs.Divide modes.Error (a ∷ b ∷ []) number)
unfolding table
quotient_is a b first second = call_is funcs.Divide a b number number number quotient_entry first second
    (record { function = refl; takes = record { listed = listed_at 31 quotient_entry (omega arith) quotient_listed; of_class = refl; kinds = refl; alike = refl }; result = refl; nullable = λ is_so. refl })

pub both_is : (a b : Expr) → IsOver truth a → IsOver truth b → IsOver truth (e.Call funcs.And modes.Error (a ∷ b ∷ []) truth)
both_is a b first second = call_is funcs.And a b truth truth truth both_entry first second
    (record { function = refl; takes = record { listed = listed_at 0 both_entry (omega arith) both_listed; of_class = refl; kinds = refl; alike = refl }; result = refl; nullable = λ is_so. refl })

pub either_is : (a b : Expr) → IsOver truth a → IsOver truth b → IsOver truth (e.Call funcs.Or modes.Error (a ∷ b ∷ []) truth)
either_is a b first second = call_is funcs.Or a b truth truth truth either_entry first second
    (record { function = refl; takes = record { listed = listed_at 1 either_entry (omega arith) either_listed; of_class = refl; kinds = refl; alike = refl }; result = refl; nullable = λ is_so. refl })

kind_is : (ty : Ty) (expr : Expr) → IsOver ty expr → kind_of expr ≡ ty.kind
kind_is ty expr is = ap (λ (one : Ty). one.kind) is.ty_is

is_as : (ty : Ty) (expr : Expr) → IsOver ty expr → IsAs (ty_of expr) ty
is_as ty expr is = subst (λ (implied : Ty). IsAs implied ty) (sym is.ty_is) (record { kind = refl; nullable = λ is_so. is_so })

-- a choice of numbers
pub choice_is : (condition value other : Expr) → IsOver truth condition → IsOver number value → IsOver number other → IsOver number (e.If ((condition, value) ∷ []) other number)
choice_is condition value other tested taken rest =
    let arms : List (Expr × Expr) = (condition, value) ∷ [] in
    record {
      typed = if_typed numbers arms other number ((tested.typed, taken.typed), tt) rest.typed
          (tt, (kind_is truth condition tested, tt), (is_as number value taken, (is_as number other rest, tt)));
      ty_is = sym (type_in (Expr-F.If arms other number) (e.If arms other number) (rolls-If arms other number));
    }
