-- Calls at rows of a batch: what is known of their types, and their values from those of their arguments.
use Rattle.std.proofs.Common.{◌≡◌, ◌∙◌, ℕ, ◌<◌, ◌≤◌, List, [], ◌∷◌, length, map, get_or, Bool, true, false, ◌&&◌, Ok, IfOk, refl, sym, ap, subst, arith}
use Rattle.std.specs.List.{All, AllByRecursion, list_all, range_with_len}
use Rattle.std.proofs.lemmas.Bool.{and_parts}
use Rattle.std.proofs.lemmas.List.FromFn.{length-map-range_with_len, get_or-map-range_with_len}
use Rattle.sub_types.specs.Kind.{IsKind}
use Rattle.sub_types.specs.ResultSteps.{◌>>=◌, collect}
use Rattle.sub_types.specs.Rows.{across}
use Rattle.sub_types.specs.Value.{InKind, Fits}
use Rattle.sub_types.specs.declared.kind.Kind.{Kind}
use Rattle.sub_types.specs.declared.kind.Kind.TheVariants as kinds
use Rattle.sub_types.specs.declared.kind.Ty.{Ty}
use Rattle.sub_types.specs.declared.value.Value.{Value}
use Rattle.sub_types.specs.declared.value.Value.TheVariants as values
use Rattle.plan_typed.specs.declared.expr.Expr.{Expr, Expr-F}
use Rattle.plan_typed.specs.declared.expr.Expr.TheVariants as e
use Rattle.plan_typed.specs.declared.expr.Expr.TheVariants.{rolls-Call}
use Rattle.plan_typed.specs.declared.expr.Func.{Func}
use Rattle.plan_typed.specs.declared.expr.Func.TheVariants as funcs
use Rattle.plan_typed.specs.declared.expr.Overflow.{Overflow}
use Rattle.plan_typed.specs.Types.{ty_of}
use Rattle.func_table.proofs.KindLaws.{equal_kinds}
use Rattle.func_table.specs.Kinds.{is_equal}
use Rattle.well_typed.specs.ExprTyped.{IsTypedOver}
use Rattle.well_typed.specs.Results.{first_kind}
use Rattle.plan_denote.specs.Computed.{Computed}
use Rattle.plan_denote.specs.Calls.{applied, called}
use Rattle.plan_denote.proofs.EvalLaws.{eval-Call}
use Rattle.eval_typed.proofs.KindLaws.{is_truth, plain, truth_kind}
use Rattle.eval_typed.proofs.TableLaws.{Known, known, kinds_in, takes_all, is_first, is_test, are_equal, pass_all, all_pass, first_result, test_result}
use Rattle.batch.specs.BatchRows.{rows_of, types_of}
use Rattle.batch.specs.declared.batch.Batch.{Batch}
use Rattle.kernels.specs.declared.selection.Stop.{Stop}
use Rattle.kernels.specs.Until.{Until, until}
use Rattle.kernels.proofs.UntilLaws.{until-same}
use Rattle.batch_nodes.specs.declared.early.Early.TheVariants.{Truth, NotNull}
use Rattle.batch_nodes.specs.declared.found.Found.{Found}
use Rattle.batch_nodes.specs.Early.{ends_early}
use Rattle.batch_nodes.specs.Evaluated.{row_at, eval_at, worth_at, first_rows}
use Rattle.batch_nodes.specs.Found.{found_values}
use Rattle.batch_nodes.specs.Parts.{is_strict, AreColumns}
use Rattle.batch_nodes.specs.Strict.{earlier, at_row}
use Rattle.batch_nodes.proofs.StrictLaws.{until-get, until-placed}
use Rattle.batch_nodes.proofs.TypedLaws.{node, type_in, parts, by_places, kind_valid, computed_in_kind}

-- arguments that are all truth values, and arguments of the kind of the first
truths : (args : List Expr) (kind : Kind) → kind ≡ kinds.Bool → pass_all is_truth (kinds_in (map ty_of args)) ≡ true → AllByRecursion (λ arg. (ty_of arg).kind ≡ kind) args
truths [] kind is pass = tt
truths (arg ∷ args) kind is pass =
    let both = and_parts (is_truth (plain (ty_of arg).kind)) (pass_all is_truth (kinds_in (map ty_of args))) pass in
    (truth_kind (ty_of arg).kind both.0 ∙ sym is, truths args kind is both.1)

equal_to : (kind : Kind) (args : List Expr) → list_all (is_equal kind) (kinds_in (map ty_of args)) ≡ true → AllByRecursion (λ arg. (ty_of arg).kind ≡ kind) args
equal_to kind [] all = tt
equal_to kind (arg ∷ args) all =
    let both = and_parts (is_equal kind (ty_of arg).kind) (list_all (is_equal kind) (kinds_in (map ty_of args))) all in
    (sym (equal_kinds kind (ty_of arg).kind both.0), equal_to kind args both.1)

alike : (kind : Kind) (args : List Expr) → are_equal (kinds_in (map ty_of args)) ≡ true → kind ≡ first_kind (kinds_in (map ty_of args)) → AllByRecursion (λ arg. (ty_of arg).kind ≡ kind) args
alike kind [] equal is = tt
alike kind (arg ∷ args) equal is = (sym is, subst (λ one. AllByRecursion (λ arg. (ty_of arg).kind ≡ one) args) (sym is) (equal_to (ty_of arg).kind args equal))

strict_call : (func : Func) (kind : Kind) (mode : Overflow) (given : List Kind) (args : List Computed) → is_strict func ≡ true → called func kind mode given args ≡ (collect args >>= (λ row. applied func kind mode given row))
strict_call funcs.And kind mode given args is = absurd (cc)
strict_call funcs.Or kind mode given args is = absurd (cc)
strict_call funcs.Coalesce kind mode given args is = absurd (cc)
strict_call _ kind mode given args is = refl

module _ (batch : Batch) (func : Func) (mode : Overflow) (args : List Expr) (ty : Ty) (typed : IsTypedOver (types_of batch) (e.Call func mode args ty)) where
  pub call_type : ty ≡ ty_of (e.Call func mode args ty)
  call_type = type_in (Expr-F.Call func mode args ty) (e.Call func mode args ty) (rolls-Call func mode args ty)

  pub call_args : All (IsTypedOver (types_of batch)) args
  call_args = by_places (IsTypedOver (types_of batch)) args (parts (types_of batch) (Expr-F.Call func mode args ty) (e.Call func mode args ty) (rolls-Call func mode args ty) typed)

  pub call_kind : IsKind ty.kind
  call_kind = subst (λ (one : Ty). IsKind one.kind) (sym call_type) (kind_valid batch (e.Call func mode args ty) typed)

  call_known : Known func (map ty_of args) ty
  call_known = let found = node (types_of batch) (Expr-F.Call func mode args ty) (e.Call func mode args ty) (rolls-Call func mode args ty) typed in known func (map ty_of args) ty found.0 found.1

  truth_call : (call : Known func (map ty_of args) ty) → (is_test call.rule && takes_all is_truth call.arguments) ≡ true → (ty.kind ≡ kinds.Bool) × All (λ arg. (ty_of arg).kind ≡ ty.kind) args
  truth_call call expects =
      let both = and_parts (is_test call.rule) (takes_all is_truth call.arguments) expects in
      let is = test_result call.rule (kinds_in (map ty_of args)) ty.kind both.0 call.result in
      (is, by_places (λ arg. (ty_of arg).kind ≡ ty.kind) args (truths args ty.kind is (all_pass is_truth call.arguments (kinds_in (map ty_of args)) both.1 call.takes)))

  pub and_kinds : func ≡ funcs.And → (ty.kind ≡ kinds.Bool) × All (λ arg. (ty_of arg).kind ≡ ty.kind) args
  and_kinds is = truth_call call_known (by func is call_known)
    where
      by : (f : Func) → f ≡ funcs.And → (call : Known f (map ty_of args) ty) → (is_test call.rule && takes_all is_truth call.arguments) ≡ true
      by funcs.And same call = call.expects
      by _ same call = absurd (cc)

  pub or_kinds : func ≡ funcs.Or → (ty.kind ≡ kinds.Bool) × All (λ arg. (ty_of arg).kind ≡ ty.kind) args
  or_kinds is = truth_call call_known (by func is call_known)
    where
      by : (f : Func) → f ≡ funcs.Or → (call : Known f (map ty_of args) ty) → (is_test call.rule && takes_all is_truth call.arguments) ≡ true
      by funcs.Or same call = call.expects
      by _ same call = absurd (cc)

  pub coalesce_kinds : func ≡ funcs.Coalesce → All (λ arg. (ty_of arg).kind ≡ ty.kind) args
  coalesce_kinds is =
      let call = call_known in
      by_places (λ arg. (ty_of arg).kind ≡ ty.kind) args (alike ty.kind args (call.agrees is) (first_result call.rule (kinds_in (map ty_of args)) ty.kind (by func is call) call.result))
    where
      by : (f : Func) → f ≡ funcs.Coalesce → (call : Known f (map ty_of args) ty) → is_first call.rule ≡ true
      by funcs.Coalesce same call = call.expects
      by _ same call = absurd (cc)

  abbrev given : List Kind
  given = map (λ arg. (ty_of arg).kind) args

  whole : (i : ℕ) → eval_at (e.Call func mode args ty) batch i ≡ called func ty.kind mode given (worth_at args batch i)
  whole i = eval-Call func mode args ty (row_at batch i)

  pub eval_and : func ≡ funcs.And → (i : ℕ) → eval_at (e.Call func mode args ty) batch i ≡ ends_early (Truth false) (worth_at args batch i)
  eval_and is i = whole i ∙ ap (λ one. called one ty.kind mode given (worth_at args batch i)) is

  pub eval_or : func ≡ funcs.Or → (i : ℕ) → eval_at (e.Call func mode args ty) batch i ≡ ends_early (Truth true) (worth_at args batch i)
  eval_or is i = whole i ∙ ap (λ one. called one ty.kind mode given (worth_at args batch i)) is

  pub eval_coalesce : func ≡ funcs.Coalesce → (i : ℕ) → eval_at (e.Call func mode args ty) batch i ≡ ends_early NotNull (worth_at args batch i)
  eval_coalesce is i = whole i ∙ ap (λ one. called one ty.kind mode given (worth_at args batch i)) is

  -- a call whose arguments are all evaluated
  module _ (strict : is_strict func ≡ true) (rows : List ℕ) (found : List Found) (len : ℕ) (stop : Stop) (are : AreColumns args batch rows found len stop) where
    abbrev at_place : ℕ → List Value
    at_place i = across values.Null (map found_values found) i

    abbrev pub computed_at : ℕ → Computed
    computed_at i = applied func ty.kind mode given (at_place i)

    eval_strict : (i : ℕ) → eval_at (e.Call func mode args ty) batch i ≡ (collect (worth_at args batch i) >>= (λ row. applied func ty.kind mode given row))
    eval_strict i = whole i ∙ strict_call func ty.kind mode given (worth_at args batch i) strict

    pub strict_until : until (eval_at (e.Call func mode args ty) batch) rows ≡ (let placed = until computed_at (range_with_len 0 len) in record { values = placed.values; stop = earlier (at_row rows placed.stop) stop })
    strict_until =
        until-same (eval_at (e.Call func mode args ty) batch) (λ i. collect (worth_at args batch i) >>= (λ row. applied func ty.kind mode given row)) eval_strict rows
        ∙ until-placed (λ row. applied func ty.kind mode given row) at_place rows stop (λ i. collect (worth_at args batch i)) len are.rows are.short

    pub strict_in_kind : All (Fits (types_of batch)) (rows_of batch) → All (λ row. row < batch.rows) rows → (i : ℕ) → i < len → IfOk (computed_at i) (λ value. InKind ty.kind value)
    strict_in_kind fit exist i below =
        let row = get_or rows i 0 in
        let there : i < length rows = omega (arith, below, are.short) in
        let long : length (until (λ i. collect (worth_at args batch i)) rows).values ≡ len =
        ap (λ (one : Until (List Value)). length one.values) are.rows ∙ length-map-range_with_len at_place 0 len in
        let args_are : collect (worth_at args batch row) ≡ Ok (at_place i) =
        until-get (λ i. collect (worth_at args batch i)) rows i 0 [] (omega (arith, below, long))
        ∙ ap Ok (ap (λ (one : Until (List Value)). get_or one.values i []) are.rows ∙ get_or-map-range_with_len at_place 0 len i i [] below (omega arith)) in
        let whole_is : eval_at (e.Call func mode args ty) batch row ≡ computed_at i = eval_strict row ∙ ap (λ found. found >>= (λ row. applied func ty.kind mode given row)) args_are in
        let fits : IfOk (computed_at i) (λ value. InKind (ty_of (e.Call func mode args ty)).kind value) = computed_in_kind batch (e.Call func mode args ty) row (computed_at i) typed fit (exist i 0 there) whole_is in
        subst (λ (one : Ty). IfOk (computed_at i) (λ value. InKind one.kind value)) (sym call_type) fits
