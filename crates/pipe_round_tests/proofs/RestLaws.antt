-- Columns, constants and calls over the columns of both sides of a join are well typed.
use Rattle.std.proofs.Common.{inl, ◌≡◌, ◌<◌, ℕ, ℤ, true, List, [], ◌∷◌, get_or, refl, sym, ap, ap₂, subst, arith}
use Rattle.std.specs.Prelude.{FitsSigned, codes}
use Rattle.std.specs.Int.{w64}
use Rattle.std.specs.List.{Contains}
use Rattle.sub_types.specs.declared.kind.Kind.TheVariants as kinds
use Rattle.sub_types.specs.declared.kind.Ty.{Ty}
use Rattle.sub_types.specs.declared.value.Value.TheVariants as values
use Rattle.plan_typed.specs.declared.expr.Expr.{Expr, Expr-F}
use Rattle.plan_typed.specs.declared.expr.Expr.TheVariants as exprs
use Rattle.plan_typed.specs.declared.expr.Expr.TheVariants.{rolls-Const, rolls-Column, rolls-Call}
use Rattle.plan_typed.specs.declared.expr.Func.{Func}
use Rattle.plan_typed.specs.declared.expr.Func.TheVariants as funcs
use Rattle.plan_typed.specs.declared.expr.Overflow.TheVariants as modes
use Rattle.func_table.specs.declared.row.Class.TheVariants.{Scalar}
use Rattle.func_table.specs.Entry.{Entry}
use Rattle.func_table.specs.Table.{table, test}
use Rattle.well_typed.specs.ExprTyped.{IsCall}
use Rattle.well_typed.specs.WellTyped.{IsConditionOver}
use Rattle.well_typed.proofs.Made.{const_typed, column_typed, call_typed}
use Rattle.batch_nodes.proofs.TypedLaws.{type_in}
use Rattle.pipe_round_tests.specs.Rests.{IsTyped}
use Rattle.pipe_round_tests.specs.Steps.{number, sides}
use Rattle.pipe_round_tests.proofs.BreakerLaws.{long}

abbrev truth : Ty
truth = record { kind = kinds.Bool; nullable = true }

pub left_is : IsTyped number (exprs.Column 1 number)
left_is = record {
  typed = column_typed sides 1 number (number, refl, record { kind = refl; nullable = λ yes. yes });
  ty_is = sym (type_in (Expr-F.Column 1 number) (exprs.Column 1 number) (rolls-Column 1 number));
}

pub right_is : IsTyped number (exprs.Column 3 number)
right_is = record {
  typed = column_typed sides 3 number (number, refl, record { kind = refl; nullable = λ yes. yes });
  ty_is = sym (type_in (Expr-F.Column 3 number) (exprs.Column 3 number) (rolls-Column 3 number));
}

pub number_is : (n : ℤ) → FitsSigned w64 n → IsTyped number (exprs.Const (values.Int n) number)
number_is n fits = record {
  typed = const_typed sides (values.Int n) number (tt, record { in_kind = fits; short = tt; allowed = λ is. refl });
  ty_is = sym (type_in (Expr-F.Const (values.Int n) number) (exprs.Const (values.Int n) number) (rolls-Const (values.Int n) number));
}

-- a call of an entry of the table
call_is : (func : Func) (a b : Expr) (ty : Ty) (entry : Entry) → IsTyped number a → IsTyped number b → IsCall Scalar func (number ∷ number ∷ []) ty entry → IsTyped ty (exprs.Call func modes.Error (a ∷ b ∷ []) ty)
call_is func a b ty entry first second call = record {
  typed = call_typed sides func modes.Error (a ∷ b ∷ []) ty (first.typed, (second.typed, tt))
      (entry, subst (λ (given : List Ty). IsCall Scalar func given ty entry) (ap₂ (λ (s t : Ty). s ∷ t ∷ []) (sym first.ty_is) (sym second.ty_is)) call, inl refl);
  ty_is = sym (type_in (Expr-F.Call func modes.Error (a ∷ b ∷ []) ty) (exprs.Call func modes.Error (a ∷ b ∷ []) ty) (rolls-Call func modes.Error (a ∷ b ∷ []) ty));
}

condition_is : (expr : Expr) → IsTyped truth expr → IsConditionOver sides expr
condition_is expr is = (is.typed, ap (λ (ty : Ty). ty.kind) is.ty_is)

listed_at : (k : ℕ) (entry : Entry) → k < 86 → get_or table k entry ≡ entry → Contains table entry
listed_at k entry below at = (k, subst (λ n. k < n) (sym long) below, at)

abbrev under_entry : Entry
under_entry = test (codes "lt") 2 funcs.Lt

abbrev above_entry : Entry
above_entry = test (codes "gt") 2 funcs.Gt

abbrev quotient_entry : Entry
quotient_entry = get_or table 31 under_entry

under_listed : get_or table 6 under_entry ≡ under_entry
unfolding table
under_listed = refl

above_listed : get_or table 8 above_entry ≡ above_entry
unfolding table
above_listed = refl

quotient_listed : get_or table 31 quotient_entry ≡ quotient_entry
unfolding table
quotient_listed = refl

pub under_is : (a b : Expr) → IsTyped number a → IsTyped number b → IsConditionOver sides (exprs.Call funcs.Lt modes.Error (a ∷ b ∷ []) truth)
under_is a b first second = condition_is (exprs.Call funcs.Lt modes.Error (a ∷ b ∷ []) truth) (call_is funcs.Lt a b truth under_entry first second
    (record { function = refl; takes = record { listed = listed_at 6 under_entry (omega arith) under_listed; of_class = refl; kinds = refl; alike = refl }; result = refl; nullable = λ yes. refl }))

pub above_is : (a b : Expr) → IsTyped number a → IsTyped number b → IsConditionOver sides (exprs.Call funcs.Gt modes.Error (a ∷ b ∷ []) truth)
above_is a b first second = condition_is (exprs.Call funcs.Gt modes.Error (a ∷ b ∷ []) truth) (call_is funcs.Gt a b truth above_entry first second
    (record { function = refl; takes = record { listed = listed_at 8 above_entry (omega arith) above_listed; of_class = refl; kinds = refl; alike = refl }; result = refl; nullable = λ yes. refl }))

pub quotient_is : (a b : Expr) → IsTyped number a → IsTyped number b → IsTyped number (exprs.Call funcs.Divide modes.Error (a ∷ b ∷ []) number)
unfolding table
quotient_is a b first second = call_is funcs.Divide a b number quotient_entry first second
    (record { function = refl; takes = record { listed = listed_at 31 quotient_entry (omega arith) quotient_listed; of_class = refl; kinds = refl; alike = refl }; result = refl; nullable = λ yes. refl })
