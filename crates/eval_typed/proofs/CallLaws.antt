-- What a well-typed call gives fits its type.
use Rattle.std.proofs.Common.{◌≡◌, ◌∙◌, ℕ, ◌+ℤ◌, ◌-ℤ◌, Bool, true, false, not, ◌&&◌, ◌||◌, List, [], ◌∷◌, IsTrue, inl, inr, refl, sym, ap, subst}
use Rattle.std.specs.Prelude.{int_div, int_rem}
use Rattle.std.specs.List.{AllByRecursion, list_all}
use Rattle.std.specs.declared.cmp.Ordering.{Ordering}
use Rattle.std.specs.Ordering.{is_eq, is_ne, is_lt, is_le, is_gt, is_ge}
use Rattle.std.proofs.lemmas.Bool.{and_parts, or_cases}
use Rattle.sub_types.specs.Value.{FitsTy, Fits}
use Rattle.sub_types.specs.declared.kind.Kind.{Kind}
use Rattle.sub_types.specs.declared.kind.Kind.TheVariants as kinds
use Rattle.sub_types.specs.declared.kind.Ty.{Ty}
use Rattle.sub_types.specs.declared.value.Value.{Value}
use Rattle.plan_typed.specs.declared.expr.Func.{Func}
use Rattle.plan_typed.specs.declared.expr.Func.TheVariants as funcs
use Rattle.plan_typed.specs.declared.expr.Overflow.{Overflow}
use Rattle.func_table.proofs.KindLaws.{equal_kinds}
use Rattle.func_table.specs.declared.row.Class.TheVariants.{Scalar}
use Rattle.func_table.specs.Entry.{Entry, Arguments, takes_kinds}
use Rattle.func_table.specs.Kinds.{is_equal}
use Rattle.well_typed.specs.Casts.{is_whole}
use Rattle.well_typed.specs.ExprTyped.{IsCall}
use Rattle.well_typed.specs.Results.{first_kind}
use Rattle.plan_denote.specs.Computed.{Computed, ◌>>=◌, collect, is_null}
use Rattle.plan_denote.specs.Order.{is_same}
use Rattle.plan_denote.specs.Logic.{ends_at, compared, coalesce}
use Rattle.plan_denote.specs.Texts.{tested, begins, ends, contains, like}
use Rattle.plan_denote.specs.Calls.{applied, called}
use Rattle.eval_typed.proofs.Fit.{IsOf, AreOf, moved_of, some_null, first_null, later_null, then_of, collected}
use Rattle.eval_typed.proofs.KindLaws.{any_kind, is_truth, is_text, is_decimal, plain, truth_kind, text_kind, whole_kind, decimal_kind}
use Rattle.eval_typed.proofs.TableLaws.{Known, known, IsBy, kinds_in, takes_each, takes_all, takes_some, is_first, is_test, is_number, is_declared, are_equal, two_whole, two_decimal, pass_all, each_pass, all_pass, some_pass, some_first, first_result, test_result, number_result, declared_result}
use Rattle.eval_typed.proofs.RowLaws.{Passes, one_by, two_by, three_by}
use Rattle.eval_typed.proofs.LogicLaws.{truth_of, ends_fit, not_fits, xor_fits, compared_fits, between_fits, coalesce_fits, nullif_fits}
use Rattle.eval_typed.proofs.NumberLaws.{combined_fits, product_fits, divided_fits, combined_decimals_fit, decimal_product_fits, negated_fits, absolute_fits}
use Rattle.eval_typed.proofs.TextLaws.{concat_fits, substring_fits, counted_substring_fits, tested_fits, char_length_fits, octet_length_fits}

-- one of several types is nullable
one_null : (t : Ty) (types : List Ty) (ty : Ty) → (IsTrue (some_null (t ∷ types)) → IsTrue ty.nullable) → IsTrue t.nullable → IsTrue ty.nullable
one_null t types ty nullable null = nullable (first_null t types null)

rest_null : (t : Ty) (types : List Ty) (ty : Ty) → (IsTrue (some_null (t ∷ types)) → IsTrue ty.nullable) → IsTrue (some_null types) → IsTrue ty.nullable
rest_null t types ty nullable null = nullable (later_null t types null)

-- arguments of truth values fit the result's type
as_tests : (types : List Ty) (args : List Computed) (ty : Ty) → pass_all is_truth (kinds_in types) ≡ true → ty.kind ≡ kinds.Bool → (IsTrue (some_null types) → IsTrue ty.nullable) → AreOf types args → AllByRecursion (IsOf ty) args
as_tests [] [] ty pass is nullable are = tt
as_tests [] (arg ∷ args) ty pass is nullable are = absurd are
as_tests (t ∷ types) [] ty pass is nullable are = absurd are
as_tests (t ∷ types) (arg ∷ args) ty pass is nullable are =
    let parts = and_parts (is_truth (plain t.kind)) (pass_all is_truth (kinds_in types)) pass in (
      moved_of t ty arg (is ∙ sym (truth_kind t.kind parts.0)) (one_null t types ty nullable) are.0,
      as_tests types args ty parts.1 is (rest_null t types ty nullable) are.1,
    )

-- kinds that are equal to the first
equal_to : (kind : Kind) (types : List Ty) → list_all (is_equal kind) (kinds_in types) ≡ true → AllByRecursion (λ (one : Ty). kind ≡ one.kind) types
equal_to kind [] all = tt
equal_to kind (t ∷ types) all =
    let parts = and_parts (is_equal kind t.kind) (list_all (is_equal kind) (kinds_in types)) all in
    (equal_kinds kind t.kind parts.0, equal_to kind types parts.1)

all_alike : (kind : Kind) (types : List Ty) → are_equal (kinds_in types) ≡ true → kind ≡ first_kind (kinds_in types) → AllByRecursion (λ (one : Ty). kind ≡ one.kind) types
all_alike kind [] equal is = tt
all_alike kind (t ∷ types) equal is = (is, subst (λ (one : Kind). AllByRecursion (λ (other : Ty). one ≡ other.kind) types) (sym is) (equal_to t.kind types equal))

second_null : (t u : Ty) (types : List Ty) (ty : Ty) → (IsTrue (some_null (t ∷ u ∷ types)) → IsTrue ty.nullable) → IsTrue u.nullable → IsTrue ty.nullable
second_null t u types ty nullable = one_null u types ty (rest_null t (u ∷ types) ty nullable)

third_null : (t u v : Ty) (types : List Ty) (ty : Ty) → (IsTrue (some_null (t ∷ u ∷ v ∷ types)) → IsTrue ty.nullable) → IsTrue v.nullable → IsTrue ty.nullable
third_null t u v types ty nullable = second_null u v types ty (rest_null t (u ∷ v ∷ types) ty nullable)

-- one or more texts, of which the first gives the result's kind
text_first : (types : List Ty) (arguments : Arguments) (kind : Kind) → takes_some is_text arguments ≡ true → takes_kinds arguments (kinds_in types) ≡ true → kind ≡ first_kind (kinds_in types)
    → (pass_all is_text (kinds_in types) ≡ true) × (kind ≡ kinds.Text)
text_first [] arguments kind some takes is = absurd (some_first is_text arguments some takes)
text_first (t ∷ types) arguments kind some takes is =
    let pass = some_pass is_text arguments t.kind (kinds_in types) some takes in
    (pass, is ∙ text_kind t.kind (and_parts (is_text (plain t.kind)) (pass_all is_text (kinds_in types)) pass).0)

module _ (types : List Ty) (ty : Ty) (mode : Overflow) where
  -- the result is null only where an argument is
  abbrev Strict : List Ty → Type 0
  Strict given = IsTrue (some_null given) → IsTrue ty.nullable

  -- a call of one, two or three arguments, of which N is known
  abbrev AtRow : (func : Func) → Known func types ty → (List Ty → Type 0) → List Ty → List Value → Type 0
  AtRow func call N given row = IsBy call.rule (kinds_in given) ty.kind → N given → IsOf ty (applied func ty.kind mode (kinds_in given) row)

  one_arg : (func : Func) (call : Known func types ty) (N : List Ty → Type 0) (test : Kind → Bool) → takes_each (test ∷ []) call.arguments ≡ true → N types
      → ((t : Ty) (a : Value) → Passes test t a → AtRow func call N (t ∷ []) (a ∷ []))
      → (row : List Value) → Fits types row → IsOf ty (applied func ty.kind mode (kinds_in types) row)
  one_arg func call N test takes n k row fits =
      one_by (AtRow func call N) test k types row (each_pass (test ∷ []) call.arguments (kinds_in types) takes call.takes) fits call.result n

  two_args : (func : Func) (call : Known func types ty) (N : List Ty → Type 0) (test other : Kind → Bool) → takes_each (test ∷ other ∷ []) call.arguments ≡ true → N types
      → ((t u : Ty) (a b : Value) → Passes test t a → Passes other u b → AtRow func call N (t ∷ u ∷ []) (a ∷ b ∷ []))
      → (row : List Value) → Fits types row → IsOf ty (applied func ty.kind mode (kinds_in types) row)
  two_args func call N test other takes n k row fits =
      two_by (AtRow func call N) test other k types row (each_pass (test ∷ other ∷ []) call.arguments (kinds_in types) takes call.takes) fits call.result n

  three_args : (func : Func) (call : Known func types ty) (N : List Ty → Type 0) (test other last : Kind → Bool) → takes_each (test ∷ other ∷ last ∷ []) call.arguments ≡ true → N types
      → ((t u v : Ty) (a b c : Value) → Passes test t a → Passes other u b → Passes last v c → AtRow func call N (t ∷ u ∷ v ∷ []) (a ∷ b ∷ c ∷ []))
      → (row : List Value) → Fits types row → IsOf ty (applied func ty.kind mode (kinds_in types) row)
  three_args func call N test other last takes n k row fits =
      three_by (AtRow func call N) test other last k types row (each_pass (test ∷ other ∷ last ∷ []) call.arguments (kinds_in types) takes call.takes) fits call.result n

  -- truth values
  not_call : Known funcs.Not types ty → (row : List Value) → Fits types row → IsOf ty (applied funcs.Not ty.kind mode (kinds_in types) row)
  not_call call =
      let parts = and_parts (is_test call.rule) (takes_each (is_truth ∷ []) call.arguments) call.expects in
      one_arg funcs.Not call Strict is_truth parts.1 call.nullable (λ t a first by n.
      not_fits t ty a (truth_kind t.kind first.kind) (test_result call.rule (t.kind ∷ []) ty.kind parts.0 by) (one_null t [] ty n) first.fits)

  xor_call : Known funcs.Xor types ty → (row : List Value) → Fits types row → IsOf ty (applied funcs.Xor ty.kind mode (kinds_in types) row)
  xor_call call =
      let parts = and_parts (is_test call.rule) (takes_each (is_truth ∷ is_truth ∷ []) call.arguments) call.expects in
      two_args funcs.Xor call Strict is_truth is_truth parts.1 call.nullable (λ t u a b first second by n.
      xor_fits t u ty a b (truth_kind t.kind first.kind) (truth_kind u.kind second.kind) (test_result call.rule (t.kind ∷ u.kind ∷ []) ty.kind parts.0 by)
      (one_null t (u ∷ []) ty n) (second_null t u [] ty n) first.fits second.fits)

  -- comparisons
  comparison : (func : Func) (test : Ordering → Bool) (call : Known func types ty) → (is_test call.rule && takes_each (any_kind ∷ any_kind ∷ []) call.arguments) ≡ true → Strict types
      → ((given : List Kind) (a b : Value) → applied func ty.kind mode given (a ∷ b ∷ []) ≡ compared test a b)
      → (row : List Value) → Fits types row → IsOf ty (applied func ty.kind mode (kinds_in types) row)
  comparison func test call expects nullable same =
      let parts = and_parts (is_test call.rule) (takes_each (any_kind ∷ any_kind ∷ []) call.arguments) expects in
      two_args func call Strict any_kind any_kind parts.1 nullable (λ t u a b first second by n.
      subst (IsOf ty) (sym (same (t.kind ∷ u.kind ∷ []) a b))
      (compared_fits test t u ty a b (test_result call.rule (t.kind ∷ u.kind ∷ []) ty.kind parts.0 by) (one_null t (u ∷ []) ty n) (second_null t u [] ty n) first.fits second.fits))

  between_call : Known funcs.Between types ty → (row : List Value) → Fits types row → IsOf ty (applied funcs.Between ty.kind mode (kinds_in types) row)
  between_call call =
      let parts = and_parts (is_test call.rule) (takes_each (any_kind ∷ any_kind ∷ any_kind ∷ []) call.arguments) call.expects in
      three_args funcs.Between call Strict any_kind any_kind any_kind parts.1 call.nullable (λ t u v a b c first second third by n.
      between_fits t u v ty a b c (test_result call.rule (t.kind ∷ u.kind ∷ v.kind ∷ []) ty.kind parts.0 by)
      (one_null t (u ∷ v ∷ []) ty n) (second_null t u (v ∷ []) ty n) (third_null t u v [] ty n) first.fits second.fits third.fits)

  -- what is known of a test whose result is never null
  abbrev Nothing : List Ty → Type 0
  Nothing given = Unit {0}

  is_null_call : Known funcs.IsNull types ty → (row : List Value) → Fits types row → IsOf ty (applied funcs.IsNull ty.kind mode (kinds_in types) row)
  is_null_call call =
      let parts = and_parts (is_test call.rule) (takes_each (any_kind ∷ []) call.arguments) call.expects in
      one_arg funcs.IsNull call Nothing any_kind parts.1 tt (λ t a first by _. truth_of ty (is_null a) (test_result call.rule (t.kind ∷ []) ty.kind parts.0 by))

  is_not_null_call : Known funcs.IsNotNull types ty → (row : List Value) → Fits types row → IsOf ty (applied funcs.IsNotNull ty.kind mode (kinds_in types) row)
  is_not_null_call call =
      let parts = and_parts (is_test call.rule) (takes_each (any_kind ∷ []) call.arguments) call.expects in
      one_arg funcs.IsNotNull call Nothing any_kind parts.1 tt (λ t a first by _. truth_of ty (not (is_null a)) (test_result call.rule (t.kind ∷ []) ty.kind parts.0 by))

  same_call : Known funcs.IsNotDistinctFrom types ty → (row : List Value) → Fits types row → IsOf ty (applied funcs.IsNotDistinctFrom ty.kind mode (kinds_in types) row)
  same_call call =
      let parts = and_parts (is_test call.rule) (takes_each (any_kind ∷ any_kind ∷ []) call.arguments) call.expects in
      two_args funcs.IsNotDistinctFrom call Nothing any_kind any_kind parts.1 tt (λ t u a b first second by _.
      truth_of ty (is_same a b) (test_result call.rule (t.kind ∷ u.kind ∷ []) ty.kind parts.0 by))

  nullif_call : Known funcs.Nullif types ty → (row : List Value) → Fits types row → IsOf ty (applied funcs.Nullif ty.kind mode (kinds_in types) row)
  nullif_call call =
      let parts = and_parts (is_first call.rule) (takes_each (any_kind ∷ any_kind ∷ []) call.arguments) call.expects in
      two_args funcs.Nullif call Nothing any_kind any_kind parts.1 tt (λ t u a b first second by _.
      nullif_fits t ty a b (first_result call.rule (t.kind ∷ u.kind ∷ []) ty.kind parts.0 by) (call.nullable refl) first.fits)

  -- numbers, whole or decimal
  abbrev One : Func → (Kind → Bool) → Type 0
  One func test = (t : Ty) (a : Value) → test t.kind ≡ true → test ty.kind ≡ true → (IsTrue t.nullable → IsTrue ty.nullable) → FitsTy t a → IsOf ty (applied func ty.kind mode (t.kind ∷ []) (a ∷ []))

  abbrev Two : Func → (Kind → Bool) → Type 0
  Two func test = (t u : Ty) (a b : Value) → test t.kind ≡ true → test u.kind ≡ true → test ty.kind ≡ true → (IsTrue t.nullable → IsTrue ty.nullable) → (IsTrue u.nullable → IsTrue ty.nullable)
      → FitsTy t a → FitsTy u b → IsOf ty (applied func ty.kind mode (t.kind ∷ u.kind ∷ []) (a ∷ b ∷ []))

  whole_call : (func : Func) (call : Known func types ty) → (is_first call.rule && takes_each (is_whole ∷ []) call.arguments) ≡ true → Strict types → One func is_whole
      → (row : List Value) → Fits types row → IsOf ty (applied func ty.kind mode (kinds_in types) row)
  whole_call func call expects nullable k =
      let parts = and_parts (is_first call.rule) (takes_each (is_whole ∷ []) call.arguments) expects in
      one_arg func call Strict is_whole parts.1 nullable (λ t a first by n.
      let of = whole_kind t.kind first.kind in
      k t a of (ap is_whole (first_result call.rule (t.kind ∷ []) ty.kind parts.0 by) ∙ of) (one_null t [] ty n) first.fits)

  wholes_call : (func : Func) (call : Known func types ty) → (is_first call.rule && takes_each two_whole call.arguments) ≡ true → Strict types → Two func is_whole
      → (row : List Value) → Fits types row → IsOf ty (applied func ty.kind mode (kinds_in types) row)
  wholes_call func call expects nullable k =
      let parts = and_parts (is_first call.rule) (takes_each two_whole call.arguments) expects in
      two_args func call Strict is_whole is_whole parts.1 nullable (λ t u a b first second by n.
      let of = whole_kind t.kind first.kind in
      k t u a b of (whole_kind u.kind second.kind) (ap is_whole (first_result call.rule (t.kind ∷ u.kind ∷ []) ty.kind parts.0 by) ∙ of)
      (one_null t (u ∷ []) ty n) (second_null t u [] ty n) first.fits second.fits)

  decimals_call : (func : Func) (call : Known func types ty) → (is_declared call.rule && takes_each two_decimal call.arguments) ≡ true → Strict types → Two func is_decimal
      → (row : List Value) → Fits types row → IsOf ty (applied func ty.kind mode (kinds_in types) row)
  decimals_call func call expects nullable k =
      let parts = and_parts (is_declared call.rule) (takes_each two_decimal call.arguments) expects in
      two_args func call Strict is_decimal is_decimal parts.1 nullable (λ t u a b first second by n.
      k t u a b (decimal_kind t.kind first.kind) (decimal_kind u.kind second.kind) (declared_result call.rule (t.kind ∷ u.kind ∷ []) ty.kind parts.0 by)
      (one_null t (u ∷ []) ty n) (second_null t u [] ty n) first.fits second.fits)

  numbers_call : (func : Func) (call : Known func types ty)
      → ((is_first call.rule && takes_each two_whole call.arguments) || (is_declared call.rule && takes_each two_decimal call.arguments)) ≡ true → Strict types → Two func is_whole → Two func is_decimal
      → (row : List Value) → Fits types row → IsOf ty (applied func ty.kind mode (kinds_in types) row)
  numbers_call func call expects nullable k l row fits =
      elim (or_cases (is_first call.rule && takes_each two_whole call.arguments) (is_declared call.rule && takes_each two_decimal call.arguments) expects) [
        | inl whole ↦ wholes_call func call whole nullable k row fits
        | inr decimal ↦ decimals_call func call decimal nullable l row fits
      ]

  -- texts
  concat_call : Known funcs.Concat types ty → (row : List Value) → Fits types row → IsOf ty (applied funcs.Concat ty.kind mode (kinds_in types) row)
  concat_call call row fits =
      let parts = and_parts (is_first call.rule) (takes_some is_text call.arguments) call.expects in
      let text = text_first types call.arguments ty.kind parts.1 call.takes (first_result call.rule (kinds_in types) ty.kind parts.0 call.result) in
      concat_fits types row ty text.0 text.1 call.nullable fits

  substring_call : Known funcs.Substring types ty → (row : List Value) → Fits types row → IsOf ty (applied funcs.Substring ty.kind mode (kinds_in types) row)
  substring_call call row fits =
      let two = takes_each (is_text ∷ is_whole ∷ []) call.arguments in
      let three = takes_each (is_text ∷ is_whole ∷ is_whole ∷ []) call.arguments in
      let parts = and_parts (is_first call.rule) (two || three) call.expects in
      elim (or_cases two three parts.1) [
        | inl takes ↦ two_args funcs.Substring call Strict is_text is_whole takes call.nullable (λ t u a b first second by n.
            let of = text_kind t.kind first.kind in
            substring_fits t u ty a b of (whole_kind u.kind second.kind) (first_result call.rule (t.kind ∷ u.kind ∷ []) ty.kind parts.0 by ∙ of)
            (one_null t (u ∷ []) ty n) (second_null t u [] ty n) first.fits second.fits) row fits
        | inr takes ↦ three_args funcs.Substring call Strict is_text is_whole is_whole takes call.nullable (λ t u v a b c first second third by n.
            let of = text_kind t.kind first.kind in
            counted_substring_fits t u ty a b of (whole_kind u.kind second.kind) (first_result call.rule (t.kind ∷ u.kind ∷ v.kind ∷ []) ty.kind parts.0 by ∙ of)
            (one_null t (u ∷ v ∷ []) ty n) (second_null t u (v ∷ []) ty n) first.fits second.fits v c (whole_kind v.kind third.kind) (third_null t u v [] ty n) third.fits) row fits
      ]

  text_test : (func : Func) (test : List ℕ → List ℕ → Bool) (call : Known func types ty) → (is_test call.rule && takes_each (is_text ∷ is_text ∷ []) call.arguments) ≡ true → Strict types
      → ((given : List Kind) (a b : Value) → applied func ty.kind mode given (a ∷ b ∷ []) ≡ tested test a b)
      → (row : List Value) → Fits types row → IsOf ty (applied func ty.kind mode (kinds_in types) row)
  text_test func test call expects nullable same =
      let parts = and_parts (is_test call.rule) (takes_each (is_text ∷ is_text ∷ []) call.arguments) expects in
      two_args func call Strict is_text is_text parts.1 nullable (λ t u a b first second by n.
      subst (IsOf ty) (sym (same (t.kind ∷ u.kind ∷ []) a b))
      (tested_fits test t u ty a b (text_kind t.kind first.kind) (text_kind u.kind second.kind) (test_result call.rule (t.kind ∷ u.kind ∷ []) ty.kind parts.0 by)
      (one_null t (u ∷ []) ty n) (second_null t u [] ty n) first.fits second.fits))

  char_length_call : Known funcs.CharLength types ty → (row : List Value) → Fits types row → IsOf ty (applied funcs.CharLength ty.kind mode (kinds_in types) row)
  char_length_call call =
      let parts = and_parts (is_number call.rule) (takes_each (is_text ∷ []) call.arguments) call.expects in
      one_arg funcs.CharLength call Strict is_text parts.1 call.nullable (λ t a first by n.
      char_length_fits t ty a (text_kind t.kind first.kind) (number_result call.rule (t.kind ∷ []) ty.kind parts.0 by) (one_null t [] ty n) first.fits)

  octet_length_call : Known funcs.OctetLength types ty → (row : List Value) → Fits types row → IsOf ty (applied funcs.OctetLength ty.kind mode (kinds_in types) row)
  octet_length_call call =
      let parts = and_parts (is_number call.rule) (takes_each (is_text ∷ []) call.arguments) call.expects in
      one_arg funcs.OctetLength call Strict is_text parts.1 call.nullable (λ t a first by n.
      octet_length_fits t ty a (text_kind t.kind first.kind) (number_result call.rule (t.kind ∷ []) ty.kind parts.0 by) (one_null t [] ty n) first.fits)

  -- over what the arguments are worth
  ends_call : (func : Func) (end : Bool) (call : Known func types ty) → (is_test call.rule && takes_all is_truth call.arguments) ≡ true → Strict types
      → (args : List Computed) → AreOf types args → IsOf ty (ends_at end args)
  ends_call func end call expects nullable args are =
      let parts = and_parts (is_test call.rule) (takes_all is_truth call.arguments) expects in
      let is = test_result call.rule (kinds_in types) ty.kind parts.0 call.result in
      let pass = all_pass is_truth call.arguments (kinds_in types) parts.1 call.takes in
      ends_fit ty end args is (as_tests types args ty pass is nullable are)

  coalesce_call : Known funcs.Coalesce types ty → (args : List Computed) → AreOf types args → IsOf ty (coalesce args)
  coalesce_call call args are =
      coalesce_fits types args ty are (all_alike ty.kind types (call.agrees refl) (first_result call.rule (kinds_in types) ty.kind call.expects call.result)) call.nullable

  by_row : (func : Func) → ((row : List Value) → Fits types row → IsOf ty (applied func ty.kind mode (kinds_in types) row))
      → (args : List Computed) → AreOf types args → IsOf ty (collect args >>= (λ row. applied func ty.kind mode (kinds_in types) row))
  by_row func k args are = then_of (λ row. Fits types row) (collect args) (λ row. applied func ty.kind mode (kinds_in types) row) ty (collected types args are) k

  known_fits : (func : Func) → Known func types ty → (args : List Computed) → AreOf types args → IsOf ty (called func ty.kind mode (kinds_in types) args)
  known_fits funcs.And call = ends_call funcs.And false call call.expects call.nullable
  known_fits funcs.Or call = ends_call funcs.Or true call call.expects call.nullable
  known_fits funcs.Coalesce call = coalesce_call call
  known_fits funcs.Not call = by_row funcs.Not (not_call call)
  known_fits funcs.Xor call = by_row funcs.Xor (xor_call call)
  known_fits funcs.Equal call = by_row funcs.Equal (comparison funcs.Equal is_eq call call.expects call.nullable (λ given a b. refl))
  known_fits funcs.NotEqual call = by_row funcs.NotEqual (comparison funcs.NotEqual is_ne call call.expects call.nullable (λ given a b. refl))
  known_fits funcs.Lt call = by_row funcs.Lt (comparison funcs.Lt is_lt call call.expects call.nullable (λ given a b. refl))
  known_fits funcs.Lte call = by_row funcs.Lte (comparison funcs.Lte is_le call call.expects call.nullable (λ given a b. refl))
  known_fits funcs.Gt call = by_row funcs.Gt (comparison funcs.Gt is_gt call call.expects call.nullable (λ given a b. refl))
  known_fits funcs.Gte call = by_row funcs.Gte (comparison funcs.Gte is_ge call call.expects call.nullable (λ given a b. refl))
  known_fits funcs.Between call = by_row funcs.Between (between_call call)
  known_fits funcs.IsNull call = by_row funcs.IsNull (is_null_call call)
  known_fits funcs.IsNotNull call = by_row funcs.IsNotNull (is_not_null_call call)
  known_fits funcs.IsNotDistinctFrom call = by_row funcs.IsNotDistinctFrom (same_call call)
  known_fits funcs.Nullif call = by_row funcs.Nullif (nullif_call call)
  known_fits funcs.Add call =
      by_row funcs.Add (numbers_call funcs.Add call call.expects call.nullable (λ t u a b of other is n m fits others. combined_fits t u ty mode a b n m fits others ◌+ℤ◌ of other is)
      (λ t u a b of other is n m fits others. combined_decimals_fit t u ty mode a b n m fits others ◌+ℤ◌ of other is))
  known_fits funcs.Subtract call =
      by_row funcs.Subtract (numbers_call funcs.Subtract call call.expects call.nullable (λ t u a b of other is n m fits others. combined_fits t u ty mode a b n m fits others ◌-ℤ◌ of other is)
      (λ t u a b of other is n m fits others. combined_decimals_fit t u ty mode a b n m fits others ◌-ℤ◌ of other is))
  known_fits funcs.Multiply call =
      by_row funcs.Multiply (numbers_call funcs.Multiply call call.expects call.nullable (λ t u a b of other is n m fits others. product_fits t u ty mode a b n m fits others of other is)
      (λ t u a b of other is n m fits others. decimal_product_fits t u ty mode a b n m fits others of other is))
  known_fits funcs.Divide call =
      by_row funcs.Divide (wholes_call funcs.Divide call call.expects call.nullable (λ t u a b of other is n m fits others. divided_fits t u ty mode a b n m fits others int_div of other is))
  known_fits funcs.Modulus call =
      by_row funcs.Modulus (wholes_call funcs.Modulus call call.expects call.nullable (λ t u a b of other is n m fits others. divided_fits t u ty mode a b n m fits others int_rem of other is))
  known_fits funcs.Negate call = by_row funcs.Negate (whole_call funcs.Negate call call.expects call.nullable (λ t a of is n fits. negated_fits t ty mode a n fits of is))
  known_fits funcs.Abs call = by_row funcs.Abs (whole_call funcs.Abs call call.expects call.nullable (λ t a of is n fits. absolute_fits t ty mode a n fits of is))
  known_fits funcs.Concat call = by_row funcs.Concat (concat_call call)
  known_fits funcs.Substring call = by_row funcs.Substring (substring_call call)
  known_fits funcs.StartsWith call = by_row funcs.StartsWith (text_test funcs.StartsWith begins call call.expects call.nullable (λ given a b. refl))
  known_fits funcs.EndsWith call = by_row funcs.EndsWith (text_test funcs.EndsWith ends call call.expects call.nullable (λ given a b. refl))
  known_fits funcs.Contains call = by_row funcs.Contains (text_test funcs.Contains contains call call.expects call.nullable (λ given a b. refl))
  known_fits funcs.Like call = by_row funcs.Like (text_test funcs.Like like call call.expects call.nullable (λ given a b. refl))
  known_fits funcs.CharLength call = by_row funcs.CharLength (char_length_call call)
  known_fits funcs.OctetLength call = by_row funcs.OctetLength (octet_length_call call)
  known_fits funcs.Sum call = let wrong : false ≡ true = call.expects in absurd (cc)
  known_fits funcs.Avg call = let wrong : false ≡ true = call.expects in absurd (cc)
  known_fits funcs.Min call = let wrong : false ≡ true = call.expects in absurd (cc)
  known_fits funcs.Max call = let wrong : false ≡ true = call.expects in absurd (cc)
  known_fits funcs.Count call = let wrong : false ≡ true = call.expects in absurd (cc)

-- what a well-typed call is worth, where each argument is a fault or fits its type
pub call_fits : (func : Func) (mode : Overflow) (types : List Ty) (ty : Ty) (entry : Entry) → IsCall Scalar func types ty entry → (args : List Computed) → AreOf types args → IsOf ty (called func ty.kind mode (kinds_in types) args)
call_fits func mode types ty entry call = known_fits types ty mode func (known func types ty entry call)
