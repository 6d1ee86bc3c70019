-- Columns, constants and calls over the two columns are well typed.
use Rattle.std.proofs.Common.{inl, ◌≡◌, ◌<◌, ℕ, ℤ, List, [], ◌∷◌, length, get_or, refl, sym, ap₂, subst, arith}
use Rattle.std.specs.Prelude.{FitsSigned, codes}
use Rattle.std.specs.Int.{w64}
use Rattle.std.specs.List.{Contains}
use Rattle.sub_types.specs.declared.kind.Kind.TheVariants as kinds
use Rattle.sub_types.specs.declared.kind.Ty.{Ty}
use Rattle.sub_types.specs.declared.value.Value.TheVariants as values
use Rattle.plan_typed.specs.declared.expr.Expr.{Expr, Expr-F}
use Rattle.plan_typed.specs.declared.expr.Expr.TheVariants as e
use Rattle.plan_typed.specs.declared.expr.Expr.TheVariants.{rolls-Const, rolls-Column, rolls-Call}
use Rattle.plan_typed.specs.declared.expr.Func.{Func}
use Rattle.plan_typed.specs.declared.expr.Func.TheVariants as funcs
use Rattle.plan_typed.specs.declared.expr.Overflow.TheVariants as modes
use Rattle.func_table.specs.declared.row.Class.TheVariants.{Scalar}
use Rattle.func_table.specs.Entry.{Entry, AnyNumber}
use Rattle.func_table.specs.Table.{table, boolean, test, bool}
use Rattle.well_typed.specs.ExprTyped.{IsCall}
use Rattle.well_typed.proofs.Made.{const_typed, column_typed, call_typed}
use Rattle.batch_nodes.proofs.TypedLaws.{type_in}
use Rattle.eval_batch_tests.specs.Typed.{number, truth, numbers, IsOver}

pub first_is : IsOver number (e.Column 0 number)
first_is = record {
  typed = column_typed numbers 0 number (number, refl, record { kind = refl; nullable = λ yes. yes });
  ty_is = sym (type_in (Expr-F.Column 0 number) (e.Column 0 number) (rolls-Column 0 number));
}

pub second_is : IsOver number (e.Column 1 number)
second_is = record {
  typed = column_typed numbers 1 number (number, refl, record { kind = refl; nullable = λ yes. yes });
  ty_is = sym (type_in (Expr-F.Column 1 number) (e.Column 1 number) (rolls-Column 1 number));
}

pub number_is : (n : ℤ) → FitsSigned w64 n → IsOver number (e.Const (values.Int n) number)
number_is n fits = record {
  typed = const_typed numbers (values.Int n) number (tt, record { in_kind = fits; short = tt; allowed = λ is. refl });
  ty_is = sym (type_in (Expr-F.Const (values.Int n) number) (e.Const (values.Int n) number) (rolls-Const (values.Int n) number));
}

-- a call of an entry of the table
call_is : (func : Func) (a b : Expr) (one two ty : Ty) (entry : Entry) → IsOver one a → IsOver two b → IsCall Scalar func (one ∷ two ∷ []) ty entry → IsOver ty (e.Call func modes.Error (a ∷ b ∷ []) ty)
call_is func a b one two ty entry first second call = record {
  typed = call_typed numbers func modes.Error (a ∷ b ∷ []) ty (first.typed, (second.typed, tt))
      (entry, subst (λ (given : List Ty). IsCall Scalar func given ty entry) (ap₂ (λ (s t : Ty). s ∷ t ∷ []) (sym first.ty_is) (sym second.ty_is)) call, inl refl);
  ty_is = sym (type_in (Expr-F.Call func modes.Error (a ∷ b ∷ []) ty) (e.Call func modes.Error (a ∷ b ∷ []) ty) (rolls-Call func modes.Error (a ∷ b ∷ []) ty));
}

long : length table ≡ 86
unfolding table
long = refl

listed_at : (k : ℕ) (entry : Entry) → k < 86 → get_or table k entry ≡ entry → Contains table entry
listed_at k entry below at = (k, subst (λ n. k < n) (sym long) below, at)

abbrev equal_entry : Entry
equal_entry = test (codes "equal") 2 funcs.Equal

abbrev above_entry : Entry
above_entry = test (codes "gt") 2 funcs.Gt

abbrev sum_entry : Entry
sum_entry = get_or table 19 equal_entry

abbrev quotient_entry : Entry
quotient_entry = get_or table 31 equal_entry

abbrev first_of_entry : Entry
first_of_entry = get_or table 14 equal_entry

abbrev both_entry : Entry
both_entry = boolean (codes "and") (AnyNumber bool) funcs.And

abbrev either_entry : Entry
either_entry = boolean (codes "or") (AnyNumber bool) funcs.Or

equal_listed : get_or table 4 equal_entry ≡ equal_entry
unfolding table
equal_listed = refl

above_listed : get_or table 8 above_entry ≡ above_entry
unfolding table
above_listed = refl

sum_listed : get_or table 19 sum_entry ≡ sum_entry
unfolding table
sum_listed = refl

quotient_listed : get_or table 31 quotient_entry ≡ quotient_entry
unfolding table
quotient_listed = refl

first_of_listed : get_or table 14 first_of_entry ≡ first_of_entry
unfolding table
first_of_listed = refl

both_listed : get_or table 0 both_entry ≡ both_entry
unfolding table
both_listed = refl

either_listed : get_or table 1 either_entry ≡ either_entry
unfolding table
either_listed = refl

pub equal_is : (a b : Expr) → IsOver number a → IsOver number b → IsOver truth (e.Call funcs.Equal modes.Error (a ∷ b ∷ []) truth)
equal_is a b first second = call_is funcs.Equal a b number number truth equal_entry first second
    (record { function = refl; takes = record { listed = listed_at 4 equal_entry (omega arith) equal_listed; of_class = refl; kinds = refl; alike = refl }; result = refl; nullable = λ yes. refl })

pub above_is : (a b : Expr) → IsOver number a → IsOver number b → IsOver truth (e.Call funcs.Gt modes.Error (a ∷ b ∷ []) truth)
above_is a b first second = call_is funcs.Gt a b number number truth above_entry first second
    (record { function = refl; takes = record { listed = listed_at 8 above_entry (omega arith) above_listed; of_class = refl; kinds = refl; alike = refl }; result = refl; nullable = λ yes. refl })

pub sum_is : (a b : Expr) → IsOver number a → IsOver number b → IsOver number (e.Call funcs.Add modes.Error (a ∷ b ∷ []) number)
unfolding table
sum_is a b first second = call_is funcs.Add a b number number number sum_entry first second
    (record { function = refl; takes = record { listed = listed_at 19 sum_entry (omega arith) sum_listed; of_class = refl; kinds = refl; alike = refl }; result = refl; nullable = λ yes. refl })

pub quotient_is : (a b : Expr) → IsOver number a → IsOver number b → IsOver number (e.Call funcs.Divide modes.Error (a ∷ b ∷ []) number)
unfolding table
quotient_is a b first second = call_is funcs.Divide a b number number number quotient_entry first second
    (record { function = refl; takes = record { listed = listed_at 31 quotient_entry (omega arith) quotient_listed; of_class = refl; kinds = refl; alike = refl }; result = refl; nullable = λ yes. refl })

pub first_of_is : (a b : Expr) → IsOver number a → IsOver number b → IsOver number (e.Call funcs.Coalesce modes.Error (a ∷ b ∷ []) number)
unfolding table
first_of_is a b first second = call_is funcs.Coalesce a b number number number first_of_entry first second
    (record { function = refl; takes = record { listed = listed_at 14 first_of_entry (omega arith) first_of_listed; of_class = refl; kinds = refl; alike = refl }; result = refl; nullable = λ yes. refl })

pub both_is : (a b : Expr) → IsOver truth a → IsOver truth b → IsOver truth (e.Call funcs.And modes.Error (a ∷ b ∷ []) truth)
both_is a b first second = call_is funcs.And a b truth truth truth both_entry first second
    (record { function = refl; takes = record { listed = listed_at 0 both_entry (omega arith) both_listed; of_class = refl; kinds = refl; alike = refl }; result = refl; nullable = λ yes. refl })

pub either_is : (a b : Expr) → IsOver truth a → IsOver truth b → IsOver truth (e.Call funcs.Or modes.Error (a ∷ b ∷ []) truth)
either_is a b first second = call_is funcs.Or a b truth truth truth either_entry first second
    (record { function = refl; takes = record { listed = listed_at 1 either_entry (omega arith) either_listed; of_class = refl; kinds = refl; alike = refl }; result = refl; nullable = λ yes. refl })
