-- Each node, by what its parts are worth at the rows.
use Rattle.std.proofs.Common.{◌≡◌, ◌∙◌, ℕ, ◌+◌, ◌<◌, ◌≤◌, [], ◌∷◌, ◌++◌, List, Option, length, map, take, replicate, false, true, Ok, sym, ap, ap₂, subst, arith, rules, IfOk, refl}
use Rattle.std.specs.List.{All}
use Rattle.std.specs.Option.{IfSome}
use Rattle.std.proofs.lemmas.List.{length-append, length-replicate, length-map}
use Rattle.std.proofs.lemmas.List.Elements.{All-take}
use Rattle.sub_types.specs.Kind.{IsKind}
use Rattle.sub_types.specs.Value.{InKind}
use Rattle.sub_types.specs.declared.kind.Kind.{Kind}
use Rattle.sub_types.specs.declared.kind.Kind.TheVariants as kinds
use Rattle.sub_types.specs.declared.kind.Ty.{Ty}
use Rattle.sub_types.specs.declared.value.Value.{Value}
use Rattle.sub_types.specs.declared.value.Value.TheVariants as values
use Rattle.plan_typed.specs.declared.expr.Expr.{Expr, Expr-F, the_lemmas}
use Rattle.plan_typed.specs.declared.expr.Expr.TheVariants as e
use Rattle.plan_typed.specs.declared.expr.Expr.TheVariants.{rolls-OneOf}
use Rattle.plan_typed.specs.Types.{ty_of}
use Rattle.well_typed.specs.ExprTyped.{IsTypedOver}
use Rattle.batch.specs.BatchRows.{types_of}
use Rattle.batch.specs.ColumnValues.{values_of}
use Rattle.batch.specs.declared.batch.Batch.{Batch}
use Rattle.batch.specs.declared.column.Column.{Column}
use Rattle.kernels.specs.declared.selection.Stop.{Stop}
use Rattle.kernels.specs.declared.selection.Stop.TheVariants.{Never}
use Rattle.batch_nodes.specs.Early as early_spec
use Rattle.batch_nodes.specs.declared.early.Early.TheVariants.{Truth, NotNull}
use Rattle.batch_nodes.specs.declared.found.Found.TheVariants.{Made}
use Rattle.batch_nodes.specs.Chosen.{other_than, marked, tried}
use Rattle.batch_nodes.specs.Evaluated.{eval_at, worth_at}
use Rattle.batch_nodes.specs.Found.{IsUntil, IsOfKind, found_values}
use Rattle.batch_nodes.specs.Narrowed.{open_rows}
use Rattle.batch_nodes.specs.Options.{is_found, looked, looked_up, paired, place_of}
use Rattle.batch_nodes.specs.Parts.{AreUntil, AreColumns, AreChosen, arm_at, literals}
use Rattle.batch_nodes.proofs.CallLaws.{call_args, call_kind, and_kinds, or_kinds, coalesce_kinds, eval_and, eval_or, eval_coalesce}
use Rattle.batch_nodes.proofs.NodeUntil.{tried-none, chosen-none, if_conditions, if_values, if_other, if_kinds, switch_subject, switch_values, switch_other, switch_kinds, AreSought, sought-none, sought-end, one_of_value, one_of_options, one_of_kind, cast_input}
use Rattle.batch_nodes.proofs.StepLaws.{IsEarlySoFar, AreUntil-length, early-none, early-end, columns-none}
use Rattle.batch_nodes.proofs.StrictLaws.{until-length}
use Rattle.batch_nodes.proofs.TypedLaws.{type_in}
use Rattle.eval_batch.proofs.LoopLaws.{all_taken, holds_at, open_all, narrowed_result, nothing_in_kind, early_turn, early_called, columns_turn, tried_turn, chosen_turn, sought_turn, found_short, joined_whole}
use Rattle.eval_batch.proofs.ValueLaws.{switch_long}
use Rattle.eval_batch.proofs.eval.+eval.Goals as goal

-- ---- an expression: its node, and what that is worth

-- ---- a call

pub call-returns-in-And : goal.call-returns-in-And
call-returns-in-And t c =
    early_called c.args.batch.now c.args.func c.args.mode c.args.args.now c.args.ty c.requires.typed (Truth false) c.args.rows.now (eval_and c.args.batch.now c.args.func c.args.mode c.args.args.now c.args.ty c.requires.typed c.in-And.is) c.early_call.result c.early_call.ensures

pub call-returns-in-Or : goal.call-returns-in-Or
call-returns-in-Or t c =
    early_called c.args.batch.now c.args.func c.args.mode c.args.args.now c.args.ty c.requires.typed (Truth true) c.args.rows.now (eval_or c.args.batch.now c.args.func c.args.mode c.args.args.now c.args.ty c.requires.typed c.in-Or.is) c.early_call-in-Or.result c.early_call-in-Or.ensures

pub call-returns-in-Coalesce : goal.call-returns-in-Coalesce
call-returns-in-Coalesce t c =
    early_called c.args.batch.now c.args.func c.args.mode c.args.args.now c.args.ty c.requires.typed NotNull c.args.rows.now (eval_coalesce c.args.batch.now c.args.func c.args.mode c.args.args.now c.args.ty c.requires.typed c.in-Coalesce.is) c.early_call-in-Coalesce.result c.early_call-in-Coalesce.ensures

-- ---- a call that ends early

pub early_call-constant-requires-clause-in_kind : goal.early_call-constant-requires-clause-in_kind
early_call-constant-requires-clause-in_kind t c = subst (InKind c.args.ty.kind) (sym c.nothing.ensures) (nothing_in_kind c.args.early c.args.ty.kind c.requires.of)

pub early_call-loop-arg-init : goal.early_call-loop-arg-init
early_call-loop-arg-init t c =
    let none = early-none c.args.early c.args.batch.now c.args.rows.now in
    let built : values_of c.in_ok-column.column.values ≡ replicate (length c.args.rows.now) (early_spec.nothing c.args.early) =
    c.in_ok-column.ensures.values ∙ ap (λ n. replicate n c.nothing.result) c.len.ensures ∙ ap (replicate (length c.args.rows.now)) c.nothing.ensures in
    (c.in_ok-column.ensures.ty, record { values = built ∙ none.values; stop = none.stop })

pub early_call-returns : goal.early_call-returns
early_call-returns t c =
    let state = c.loop-arg.state in
    let end : length c.args.args.now ≤ c.loop-arg.arg-index = search rules in
    early-end c.args.early c.args.batch.now c.args.rows.now c.args.args.now c.args.ty.kind (Made state.0) state.1
    (subst (λ done. IsEarlySoFar c.args.early c.args.batch.now c.args.rows.now done (values_of state.0.values) state.1) (all_taken c.args.args.now c.loop-arg.arg-index end) c.loop-arg.invariant.1)
    (ap (λ (one : Ty). one.kind) (sym c.loop-arg.invariant.0))

pub early_step-join-requires-clause-first : goal.early_step-join-requires-clause-first
early_step-join-requires-clause-first t c = ap (λ (one : Ty). one.kind) c.requires.first

pub early_step-join-requires-clause-rest : goal.early_step-join-requires-clause-rest
early_step-join-requires-clause-rest t c = subst (λ kind. IsOfKind kind c.in_ok-rest.rest) c.requires.kind c.in_ok-rest.ensures.kind

pub quick_step-returns-clause-until : goal.quick_step-returns-clause-until
quick_step-returns-clause-until t c =
    joined_whole c.join_all.result c.args.early c.args.rows.now (values_of c.args.first.now.values) c.args.stop c.in_ok-all.all c.in_ok-all.all_stop (eval_at c.args.arg.now c.args.batch.now) c.in_ok-all.ensures.values c.in_ok-all.ensures.stop c.join_all.ensures.values

pub early_step-returns-in-Some-clause-until : goal.early_step-returns-in-Some-clause-until
early_step-returns-in-Some-clause-until t c = rw c.in-Some.is at c.in_ok-column.ensures.until

pub early_step-returns-clause-until : goal.early_step-returns-clause-until
early_step-returns-clause-until t c =
    let left_is = c.listed-at.ensures ∙ c.as_slice.ensures.value ∙ c.in_ok-left.ensures in
    narrowed_result (early_spec.settles c.args.early) (early_spec.merges c.args.early) (eval_at c.args.arg.now c.args.batch.now) c.args.rows.now c.listed-at.result (values_of c.args.first.now.values) c.args.stop
    (found_values c.in_ok-rest.rest) c.in_ok-rest.rest_stop (λ (column : Column). values_of column.values) c.join.result left_is c.in_ok-rest.ensures.values c.in_ok-rest.ensures.stop c.join.ensures.values c.join.ensures.stop

-- ---- the columns of arguments

pub columns_of-loop-arg-preserved : goal.columns_of-loop-arg-preserved
columns_of-loop-arg-preserved t c =
    let n = c.loop-arg.arg-index in
    let there : n < length c.args.args.now = search rules in
    let all_is : c.push.new.self.items ≡ c.loop-arg.found.items ++ c.in_ok-column.column ∷ [] = search rules in
    columns_turn c.args.batch.now c.args.rows.now c.args.args.now n c.arg-item.result c.loop-arg.found.items c.loop-arg.len c.loop-arg.stop c.in_ok-column.column c.in_ok-column.its_stop c.first-at.result c.push.new.self.items c.len-len-in-loop-arg.result c.earlier-stop.result
    there c.arg-item.is c.loop-arg.invariant c.first-at.ensures c.in_ok-column.ensures all_is c.len-len-in-loop-arg.ensures c.earlier-stop.ensures

pub columns_of-returns : goal.columns_of-returns
columns_of-returns t c =
    let end : length c.args.args.now ≤ c.loop-arg.arg-index = search rules in
    subst (λ done. AreColumns done c.args.batch.now c.args.rows.now c.loop-arg.found.items c.loop-arg.len c.loop-arg.stop) (all_taken c.args.args.now c.loop-arg.arg-index end) c.loop-arg.invariant

-- ---- a conditional

-- ---- its conditions

pub first_true-returns : goal.first_true-returns
first_true-returns t c =
    let n = length c.args.arms.now in
    let state = c.loop-arm.state in
    let end : n ≤ c.loop-arm.arm-index = search rules in
    subst (λ done. AreUntil (λ i. tried n 0 (Ok n) (map (λ (arm : Expr × Expr). eval_at arm.0 c.args.batch.now i) done)) c.args.rows.now state.0.items state.1) (all_taken c.args.arms.now c.loop-arm.arm-index end) c.loop-arm.invariant.1

pub first_true_step-returns : goal.first_true_step-returns
first_true_step-returns t c =
    let left_is = c.listed-at.ensures ∙ c.as_slice.ensures.value ∙ c.in_ok-left.ensures in
    narrowed_result (other_than c.args.none) (marked c.args.none c.args.number) (eval_at c.args.condition.now c.args.batch.now) c.args.rows.now c.listed-at.result c.args.choices.now c.args.stop
    (found_values c.in_ok-tests.tests) c.in_ok-tests.tests_stop (λ numbers. numbers.items) c.decide.result left_is c.in_ok-tests.ensures.values c.in_ok-tests.ensures.stop c.decide.ensures.values c.decide.ensures.stop

-- ---- its values

pub chosen_column-returns : goal.chosen_column-returns
chosen_column-returns t c =
    let left_is = c.listed-at.ensures ∙ c.as_slice.ensures.value ∙ c.in_ok-left.ensures in
    subst (λ left. IfOk c.eval_rows.result (λ out. IsUntil (eval_at c.args.e.now c.args.batch.now) left (ty_of c.args.e.now).kind out.0 out.1)) left_is c.eval_rows.ensures

-- ---- a choice among literals

-- ---- a value and its options

pub look_each-constant-requires-clause-kind : goal.look_each-constant-requires-clause-kind
look_each-constant-requires-clause-kind t c = subst IsKind (sym (one_of_kind c.args.batch.now c.args.value.now c.args.options.now c.args.ty c.requires.typed)) tt

pub look_each-constant-requires-clause-in_kind : goal.look_each-constant-requires-clause-in_kind
look_each-constant-requires-clause-in_kind t c = subst (λ kind. InKind kind (values.Bool false)) (sym (one_of_kind c.args.batch.now c.args.value.now c.args.options.now c.args.ty c.requires.typed)) tt

pub look_step-returns-clause-until : goal.look_step-returns-clause-until
look_step-returns-clause-until t c =
    let left_is = c.listed-at.ensures ∙ c.as_slice.ensures.value ∙ c.in_ok-left.ensures in
    let found = found_values c.args.values.now in
    narrowed_result is_found looked (eval_at c.args.option.now c.args.batch.now) c.args.rows.now c.listed-at.result (paired found (values_of c.args.answers.now.values)) c.args.stop
    (found_values c.in_ok-options.options) c.in_ok-options.options_stop (λ (column : Column). paired found (values_of column.values)) c.look.result left_is c.in_ok-options.ensures.values c.in_ok-options.ensures.stop c.look.ensures.values c.look.ensures.stop

-- ---- a cast

pub eval_rows-returns-in-Call : goal.eval_rows-returns-in-Call
eval_rows-returns-in-Call t c =
    subst (λ (one : Expr). IfOk c.call.result (λ out. IsUntil (eval_at one c.args.batch.now) c.args.rows.now (ty_of one).kind out.0 out.1))
    (sym (c.in-Call.is ∙ ap (λ args. e.Call c.in-Call.func c.in-Call.mode args c.in-Call.ty) (sym c.as_slice.ensures))) c.call.ensures

pub eval_rows-returns-in-Cast : goal.eval_rows-returns-in-Cast
eval_rows-returns-in-Cast t c =
    subst (λ (one : Expr). IfOk c.cast.result (λ out. IsUntil (eval_at one c.args.batch.now) c.args.rows.now (ty_of one).kind out.0 out.1))
    (sym (c.in-Cast.is ∙ ap (λ input. e.Cast input c.in-Cast.null_on_fail c.in-Cast.ty) (sym c.get.ensures))) c.cast.ensures

pub call-early_call-requires : goal.call-early_call-requires
call-early_call-requires t c =
    (search (rules, the_lemmas), (call_kind c.args.batch.now c.args.func c.args.mode c.args.args.now c.args.ty c.requires.typed, ((and_kinds c.args.batch.now c.args.func c.args.mode c.args.args.now c.args.ty c.requires.typed c.in-And.is).0, ((and_kinds c.args.batch.now c.args.func c.args.mode c.args.args.now c.args.ty c.requires.typed c.in-And.is).1, (call_args c.args.batch.now c.args.func c.args.mode c.args.args.now c.args.ty c.requires.typed, (c.requires.fit, c.requires.exist))))))

pub call-early_call-requires-in-Or : goal.call-early_call-requires-in-Or
call-early_call-requires-in-Or t c =
    (search (rules, the_lemmas), (call_kind c.args.batch.now c.args.func c.args.mode c.args.args.now c.args.ty c.requires.typed, ((or_kinds c.args.batch.now c.args.func c.args.mode c.args.args.now c.args.ty c.requires.typed c.in-Or.is).0, ((or_kinds c.args.batch.now c.args.func c.args.mode c.args.args.now c.args.ty c.requires.typed c.in-Or.is).1, (call_args c.args.batch.now c.args.func c.args.mode c.args.args.now c.args.ty c.requires.typed, (c.requires.fit, c.requires.exist))))))

pub call-early_call-requires-in-Coalesce : goal.call-early_call-requires-in-Coalesce
call-early_call-requires-in-Coalesce t c =
    (search (rules, the_lemmas), (call_kind c.args.batch.now c.args.func c.args.mode c.args.args.now c.args.ty c.requires.typed, (tt, (coalesce_kinds c.args.batch.now c.args.func c.args.mode c.args.args.now c.args.ty c.requires.typed c.in-Coalesce.is, (call_args c.args.batch.now c.args.func c.args.mode c.args.args.now c.args.ty c.requires.typed, (c.requires.fit, c.requires.exist))))))

pub strict-columns_of-requires : goal.strict-columns_of-requires
strict-columns_of-requires t c = (search (rules, the_lemmas), (call_args c.args.batch.now c.args.func c.args.mode c.args.args.now c.args.ty c.requires.typed, (c.requires.fit, c.requires.exist)))

pub early_call-early_step-requires : goal.early_call-early_step-requires
early_call-early_step-requires t c =
    let n = c.loop-arg.arg-index in
    let args = c.args.args.now in
    let there : n < length args = search rules in
    let kind = holds_at (λ arg. (ty_of arg).kind ≡ c.args.ty.kind) args n c.arg-item.result c.requires.kinds there c.arg-item.is in
    let typed = holds_at (IsTypedOver (types_of c.args.batch.now)) args n c.arg-item.result c.requires.typed there c.arg-item.is in
    let long = AreUntil-length (λ i. early_spec.so_far c.args.early (worth_at (take n args) c.args.batch.now i)) c.args.rows.now (values_of c.loop-arg.state.0.values) c.loop-arg.state.1 c.loop-arg.invariant.1 in
    (search (rules, the_lemmas), (c.requires.valid_kind, (c.requires.of, (kind, (c.loop-arg.invariant.0, (long, (typed, (c.requires.fit, c.requires.exist))))))))

pub early_call-loop-arg-preserved : goal.early_call-loop-arg-preserved
early_call-loop-arg-preserved t c =
    let n = c.loop-arg.arg-index in
    let there : n < length c.args.args.now = search rules in (
      c.in_ok-state.ensures.ty,
      early_turn c.args.early c.args.batch.now c.args.rows.now c.args.args.now n c.arg-item.result _ _ there c.arg-item.is
          (c.in_ok-state.ensures.until (λ i. early_spec.so_far c.args.early (worth_at (take n c.args.args.now) c.args.batch.now i)) c.loop-arg.invariant.1),
    )

pub quick_step-eval_rows-requires : goal.quick_step-eval_rows-requires
quick_step-eval_rows-requires t c = (search (rules, the_lemmas), (c.requires.typed, (c.requires.fit, c.requires.exist)))

pub early_step-quick_step-requires : goal.early_step-quick_step-requires
early_step-quick_step-requires t c = (search (rules, the_lemmas), (c.requires.of, (c.requires.typed, (c.requires.fit, c.requires.exist))))

pub early_step-eval_rows-requires : goal.early_step-eval_rows-requires
early_step-eval_rows-requires t c =
    let left_is = c.listed-at.ensures ∙ c.as_slice.ensures.value ∙ c.in_ok-left.ensures in
    let exist = subst (All (λ row. row < c.args.batch.now.rows)) (sym left_is) (open_all (λ row. row < c.args.batch.now.rows) (early_spec.settles c.args.early) c.args.rows.now (values_of c.args.first.now.values) c.requires.exist) in
    (search (rules, the_lemmas), (c.requires.typed, (c.requires.fit, exist)))

pub first_true_step-eval_rows-requires : goal.first_true_step-eval_rows-requires
first_true_step-eval_rows-requires t c =
    let left_is = c.listed-at.ensures ∙ c.as_slice.ensures.value ∙ c.in_ok-left.ensures in
    let exist = subst (All (λ row. row < c.args.batch.now.rows)) (sym left_is) (open_all (λ row. row < c.args.batch.now.rows) (other_than c.args.none) c.args.rows.now c.args.choices.now c.requires.exist) in
    (search (rules, the_lemmas), (c.requires.typed, (c.requires.fit, exist)))

pub chosen_column-eval_rows-requires : goal.chosen_column-eval_rows-requires
chosen_column-eval_rows-requires t c =
    let left_is = c.listed-at.ensures ∙ c.as_slice.ensures.value ∙ c.in_ok-left.ensures in
    let exist = subst (All (λ row. row < c.args.batch.now.rows)) (sym left_is) (open_all (λ row. row < c.args.batch.now.rows) (other_than c.args.number) c.args.rows.now c.args.choices.now c.requires.exist) in
    (search (rules, the_lemmas), (c.requires.typed, (c.requires.fit, exist)))

pub look_step-eval_rows-requires : goal.look_step-eval_rows-requires
look_step-eval_rows-requires t c =
    let left_is = c.listed-at.ensures ∙ c.as_slice.ensures.value ∙ c.in_ok-left.ensures in
    let exist = subst (All (λ row. row < c.args.batch.now.rows)) (sym left_is) (open_all (λ row. row < c.args.batch.now.rows) is_found c.args.rows.now (paired (found_values c.args.values.now) (values_of c.args.answers.now.values)) c.requires.exist) in
    (search (rules, the_lemmas), (c.requires.typed, (c.requires.fit, exist)))

pub columns_of-eval_rows-requires : goal.columns_of-eval_rows-requires
columns_of-eval_rows-requires t c =
    let typed = holds_at (IsTypedOver (types_of c.args.batch.now)) c.args.args.now c.loop-arg.arg-index c.arg-item.result c.requires.typed (search rules) c.arg-item.is in
    let exist = subst (All (λ row. row < c.args.batch.now.rows)) (sym c.first-at.ensures) (All-take (λ row. row < c.args.batch.now.rows) c.loop-arg.len c.args.rows.now c.requires.exist) in
    (search (rules, the_lemmas), (typed, (c.requires.fit, exist)))

pub first_true-loop-arm-init : goal.first_true-loop-arm-init
first_true-loop-arm-init t c =
    let n = length c.args.arms.now in
    let none = tried-none n c.args.rows.now in
    (refl, record { values = c.in_ok-choices.ensures ∙ ap (λ k. replicate k n) c.len.ensures ∙ none.values; stop = none.stop })

pub first_true-first_true_step-requires : goal.first_true-first_true_step-requires
first_true-first_true_step-requires t c =
    let arms = c.args.arms.now in
    let n = length arms in
    let at = c.loop-arm.arm-index in
    let short = AreUntil-length (λ i. tried n 0 (Ok n) (map (λ (arm : Expr × Expr). eval_at arm.0 c.args.batch.now i) (take at arms))) c.args.rows.now c.loop-arm.state.0.items c.loop-arm.state.1 c.loop-arm.invariant.1 in
    let long : length c.as_slice.result.now ≤ length c.args.rows.now = subst (λ numbers. length numbers ≤ length c.args.rows.now) (sym c.as_slice.ensures.value) short in
    let typed = holds_at (λ (arm : Expr × Expr). IsTypedOver (types_of c.args.batch.now) arm.0) arms at c.arm-item.result c.requires.typed (search rules) c.arm-item.is in
    (search (rules, the_lemmas), (long, (typed, (c.requires.fit, c.requires.exist))))

pub first_true-loop-arm-preserved : goal.first_true-loop-arm-preserved
first_true-loop-arm-preserved t c =
    let arms = c.args.arms.now in
    let n = length arms in
    let at = c.loop-arm.arm-index in
    let so_far = λ (i : ℕ). tried n 0 (Ok n) (map (λ (arm : Expr × Expr). eval_at arm.0 c.args.batch.now i) (take at arms)) in
    let there : at < n = search rules in
    let before : AreUntil so_far c.args.rows.now c.as_slice.result.now c.loop-arm.state.1 = subst (λ choices. AreUntil so_far c.args.rows.now choices c.loop-arm.state.1) (sym c.as_slice.ensures.value) c.loop-arm.invariant.1 in (
      ap (λ k. k + 1) c.loop-arm.invariant.0,
      tried_turn c.args.batch.now c.args.rows.now arms at c.loop-arm.number c.arm-item.result _ _ there c.arm-item.is c.loop-arm.invariant.0 (c.in_ok-state.ensures so_far before),
    )

pub look_each-loop-option-init : goal.look_each-loop-option-init
look_each-loop-option-init t c =
    let found = c.args.values.now in
    let answers : values_of c.in_ok-answers.answers.values ≡ replicate (length (found_values found)) (values.Bool false) = c.in_ok-answers.ensures.values ∙ ap (λ n. replicate n (values.Bool false)) c.len.ensures in
    let none = sought-none c.args.batch.now c.args.value.now c.args.rows.now found (ty_of c.args.value.now).kind c.args.stop c.requires.values in (
      c.in_ok-answers.ensures.ty,
      (let e = ap length answers ∙ length-replicate (length (found_values found)) (values.Bool false) in omega (arith, e)),
      subst (λ answers. AreSought c.args.batch.now c.args.value.now c.args.rows.now found [] answers c.args.stop) (sym answers) none,
    )

pub look_each-look_step-requires : goal.look_each-look_step-requires
look_each-look_step-requires t c =
    let kind = one_of_kind c.args.batch.now c.args.value.now c.args.options.now c.args.ty c.requires.typed in
    let of = ap (λ (one : Ty). one.kind) c.loop-option.invariant.0 ∙ kind in
    let long : length (values_of c.loop-option.state.0.values) ≤ length c.args.rows.now = omega (arith, c.loop-option.invariant.1, ap length c.requires.values.values, until-length (eval_at c.args.value.now c.args.batch.now) c.args.rows.now) in
    let typed = holds_at (IsTypedOver (types_of c.args.batch.now)) c.args.options.now c.loop-option.option-index c.option-item.result (one_of_options c.args.batch.now c.args.value.now c.args.options.now c.args.ty c.requires.typed) (search rules) c.option-item.is in
    (search (rules, the_lemmas), (kind, (of, (c.loop-option.invariant.1, (long, (typed, (c.requires.fit, c.requires.exist)))))))

pub look_each-loop-option-preserved : goal.look_each-loop-option-preserved
look_each-loop-option-preserved t c =
    let n = c.loop-option.option-index in
    let found = c.args.values.now in
    let options = c.args.options.now in
    let there : n < length options = search rules in (
      c.in_ok-state.ensures.ty,
      c.in_ok-state.ensures.same,
      sought_turn c.args.batch.now c.args.value.now c.args.rows.now found options n c.option-item.result _ _ there c.option-item.is
          (c.in_ok-state.ensures.until (λ i. looked_up (eval_at c.args.value.now c.args.batch.now i) (worth_at (take n options) c.args.batch.now i)) c.loop-option.invariant.2),
    )

pub look_each-returns : goal.look_each-returns
look_each-returns t c =
    let state = c.loop-option.state in
    let options = c.args.options.now in
    let found = c.args.values.now in
    let end : length options ≤ c.loop-option.option-index = search rules in
    let all = subst (λ done. AreSought c.args.batch.now c.args.value.now c.args.rows.now found done (values_of state.0.values) state.1) (all_taken options c.loop-option.option-index end) c.loop-option.invariant.2 in
    sought-end c.args.batch.now c.args.value.now c.args.rows.now found options c.args.ty (ty_of (e.OneOf c.args.value.now options c.args.ty)).kind (Made state.0) state.1 all c.loop-option.invariant.1
    (ap (λ (one : Ty). one.kind) (sym (type_in (Expr-F.OneOf c.args.value.now options c.args.ty) (e.OneOf c.args.value.now options c.args.ty) (rolls-OneOf c.args.value.now options c.args.ty)) ∙ sym c.loop-option.invariant.0))

pub cast-eval_rows-requires : goal.cast-eval_rows-requires
cast-eval_rows-requires t c = (search (rules, the_lemmas), (cast_input c.args.batch.now c.args.input.now c.args.null_on_fail c.args.ty c.requires.typed, (c.requires.fit, c.requires.exist)))

pub columns_of-loop-arg-init : goal.columns_of-loop-arg-init
columns_of-loop-arg-init t c =
    let none_found : c.in_ok-found.found.items ≡ [] = search rules in
    subst (λ found. AreColumns [] c.args.batch.now c.args.rows.now found c.len-len.result Never) (sym none_found)
    (subst (λ n. AreColumns [] c.args.batch.now c.args.rows.now [] n Never) (sym c.len-len.ensures) (columns-none c.args.batch.now c.args.rows.now))

pub eval_rows-conditional-requires : goal.eval_rows-conditional-requires
eval_rows-conditional-requires t c =
    let typed = subst (IsTypedOver (types_of c.args.batch.now)) (c.in-If.is ∙ ap₂ (λ arms other. e.If arms other c.in-If.ty) (sym c.as_slice-pairs.ensures) (sym c.get-last.ensures)) c.requires.typed in
    (search (rules, the_lemmas), (if_conditions c.args.batch.now c.as_slice-pairs.result.now c.get-last.result.now c.in-If.ty typed, (if_values c.args.batch.now c.as_slice-pairs.result.now c.get-last.result.now c.in-If.ty typed, ((if_kinds c.args.batch.now c.as_slice-pairs.result.now c.get-last.result.now c.in-If.ty typed).0, (c.requires.fit, c.requires.exist)))))

pub eval_rows-chosen_column-requires : goal.eval_rows-chosen_column-requires
eval_rows-chosen_column-requires t c =
    let typed = subst (IsTypedOver (types_of c.args.batch.now)) (c.in-If.is ∙ ap₂ (λ arms other. e.If arms other c.in-If.ty) (sym c.as_slice-pairs.ensures) (sym c.get-last.ensures)) c.requires.typed in
    let chosen = c.in_ok-chosen-in-If.chosen in
    let short = AreUntil-length (λ i. tried (length c.as_slice-pairs.result.now) 0 (Ok (length c.as_slice-pairs.result.now)) (map (λ (arm : Expr × Expr). eval_at arm.0 c.args.batch.now i) c.as_slice-pairs.result.now)) c.args.rows.now chosen.choices.items chosen.stop c.in_ok-chosen-in-If.ensures.choices in
    let long : length c.as_slice-numbers.result.now ≤ length c.args.rows.now = subst (λ numbers. length numbers ≤ length c.args.rows.now) (sym c.as_slice-numbers.ensures.value) short in
    (search (rules, the_lemmas), (long, (if_other c.args.batch.now c.as_slice-pairs.result.now c.get-last.result.now c.in-If.ty typed, (c.requires.fit, c.requires.exist))))

pub eval_rows-if_values-requires-clause-typed : goal.eval_rows-if_values-requires-clause-typed
eval_rows-if_values-requires-clause-typed t c = subst (IsTypedOver (types_of c.args.batch.now)) (c.in-If.is ∙ ap₂ (λ arms other. e.If arms other c.in-If.ty) (sym c.as_slice-pairs.ensures) (sym c.get-last.ensures)) c.requires.typed

pub eval_rows-if_values-requires-clause-columns : goal.eval_rows-if_values-requires-clause-columns
eval_rows-if_values-requires-clause-columns t c = c.in_ok-chosen-in-If.ensures.columns c.get-last.result.now

pub eval_rows-if_values-requires-clause-rest : goal.eval_rows-if_values-requires-clause-rest
eval_rows-if_values-requires-clause-rest t c =
    subst (λ numbers. IsUntil (eval_at c.get-last.result.now c.args.batch.now) (open_rows (other_than (length c.as_slice-pairs.result.now)) c.args.rows.now numbers) (ty_of c.get-last.result.now).kind c.in_ok-rest-in-If.rest.0 c.in_ok-rest-in-If.rest.1) c.as_slice-numbers.ensures.value c.in_ok-rest-in-If.ensures

pub eval_rows-returns-in_ok-rest-in-If : goal.eval_rows-returns-in_ok-rest-in-If
eval_rows-returns-in_ok-rest-in-If t c =
    subst (λ (one : Expr). IfOk c.if_values.result (λ out. IsUntil (eval_at one c.args.batch.now) c.args.rows.now (ty_of one).kind out.0 out.1))
    (sym (c.in-If.is ∙ ap₂ (λ arms other. e.If arms other c.in-If.ty) (sym c.as_slice-pairs.ensures) (sym c.get-last.ensures))) c.if_values.ensures

pub eval_rows-eval_rows-requires : goal.eval_rows-eval_rows-requires
eval_rows-eval_rows-requires t c =
    let typed = subst (IsTypedOver (types_of c.args.batch.now)) (c.in-Switch.is ∙ ap (λ subject. e.Switch subject c.in-Switch.arms c.in-Switch.other c.in-Switch.ty) (sym c.get-first.ensures) ∙ ap₂ (λ arms other. e.Switch c.get-first.result.now arms other c.in-Switch.ty) (sym c.as_slice-cases.ensures) (sym c.get-default.ensures)) c.requires.typed in
    (search (rules, the_lemmas), (switch_subject c.args.batch.now c.get-first.result.now c.as_slice-cases.result.now c.get-default.result.now c.in-Switch.ty typed, (c.requires.fit, c.requires.exist)))

pub eval_rows-literal_columns-requires : goal.eval_rows-literal_columns-requires
eval_rows-literal_columns-requires t c =
    let typed = subst (IsTypedOver (types_of c.args.batch.now)) (c.in-Switch.is ∙ ap (λ subject. e.Switch subject c.in-Switch.arms c.in-Switch.other c.in-Switch.ty) (sym c.get-first.ensures) ∙ ap₂ (λ arms other. e.Switch c.get-first.result.now arms other c.in-Switch.ty) (sym c.as_slice-cases.ensures) (sym c.get-default.ensures)) c.requires.typed in
    let long = found_short c.get-first.result.now c.args.batch.now c.args.rows.now (ty_of c.get-first.result.now).kind c.in_ok-subjects-in-Switch.subjects c.in_ok-subjects-in-Switch.stop c.in_ok-subjects-in-Switch.ensures in
    (search (rules, the_lemmas), (long, (switch_values c.args.batch.now c.get-first.result.now c.as_slice-cases.result.now c.get-default.result.now c.in-Switch.ty typed, ((switch_kinds c.args.batch.now c.get-first.result.now c.as_slice-cases.result.now c.get-default.result.now c.in-Switch.ty typed).0, (c.requires.fit, c.requires.exist)))))

pub eval_rows-chosen_column-requires-in-Switch : goal.eval_rows-chosen_column-requires-in-Switch
eval_rows-chosen_column-requires-in-Switch t c =
    let typed = subst (IsTypedOver (types_of c.args.batch.now)) (c.in-Switch.is ∙ ap (λ subject. e.Switch subject c.in-Switch.arms c.in-Switch.other c.in-Switch.ty) (sym c.get-first.ensures) ∙ ap₂ (λ arms other. e.Switch c.get-first.result.now arms other c.in-Switch.ty) (sym c.as_slice-cases.ensures) (sym c.get-default.ensures)) c.requires.typed in
    let long = switch_long c.args.batch.now c.get-first.result.now c.as_slice-cases.result.now c.get-default.result.now c.in-Switch.ty typed c.args.rows.now (ty_of c.get-first.result.now).kind c.in_ok-subjects-in-Switch.subjects c.in_ok-subjects-in-Switch.stop c.in_ok-subjects-in-Switch.ensures c.as_slice-places.result.now (c.as_slice-places.ensures.value ∙ c.in_ok-found-in-Switch.ensures.choices) in
    (search (rules, the_lemmas), (long, (switch_other c.args.batch.now c.get-first.result.now c.as_slice-cases.result.now c.get-default.result.now c.in-Switch.ty typed, (c.requires.fit, c.requires.exist))))

pub eval_rows-switch_values-requires-clause-typed : goal.eval_rows-switch_values-requires-clause-typed
eval_rows-switch_values-requires-clause-typed t c = subst (IsTypedOver (types_of c.args.batch.now)) (c.in-Switch.is ∙ ap (λ subject. e.Switch subject c.in-Switch.arms c.in-Switch.other c.in-Switch.ty) (sym c.get-first.ensures) ∙ ap₂ (λ arms other. e.Switch c.get-first.result.now arms other c.in-Switch.ty) (sym c.as_slice-cases.ensures) (sym c.get-default.ensures)) c.requires.typed

pub eval_rows-switch_values-requires-clause-subjects : goal.eval_rows-switch_values-requires-clause-subjects
eval_rows-switch_values-requires-clause-subjects t c =
    subst (λ stop. IsUntil (eval_at c.get-first.result.now c.args.batch.now) c.args.rows.now (ty_of c.get-first.result.now).kind c.in_ok-subjects-in-Switch.subjects stop) (sym c.in_ok-found-in-Switch.ensures.stop) c.in_ok-subjects-in-Switch.ensures

pub eval_rows-switch_values-requires-clause-columns : goal.eval_rows-switch_values-requires-clause-columns
eval_rows-switch_values-requires-clause-columns t c = c.in_ok-found-in-Switch.ensures.columns c.get-default.result.now

pub eval_rows-switch_values-requires-clause-rest : goal.eval_rows-switch_values-requires-clause-rest
eval_rows-switch_values-requires-clause-rest t c =
    subst (λ numbers. IsUntil (eval_at c.get-default.result.now c.args.batch.now) (open_rows (other_than (length c.as_slice-cases.result.now)) c.args.rows.now numbers) (ty_of c.get-default.result.now).kind c.in_ok-others-in-Switch.others.0 c.in_ok-others-in-Switch.others.1) c.as_slice-places.ensures.value c.in_ok-others-in-Switch.ensures

pub eval_rows-returns-in_ok-others-in-Switch : goal.eval_rows-returns-in_ok-others-in-Switch
eval_rows-returns-in_ok-others-in-Switch t c =
    subst (λ (one : Expr). IfOk c.switch_values.result (λ out. IsUntil (eval_at one c.args.batch.now) c.args.rows.now (ty_of one).kind out.0 out.1))
    (sym (c.in-Switch.is ∙ ap (λ subject. e.Switch subject c.in-Switch.arms c.in-Switch.other c.in-Switch.ty) (sym c.get-first.ensures) ∙ ap₂ (λ arms other. e.Switch c.get-first.result.now arms other c.in-Switch.ty) (sym c.as_slice-cases.ensures) (sym c.get-default.ensures))) c.switch_values.ensures

pub eval_rows-eval_rows-requires-in-OneOf : goal.eval_rows-eval_rows-requires-in-OneOf
eval_rows-eval_rows-requires-in-OneOf t c =
    let typed = subst (IsTypedOver (types_of c.args.batch.now)) (c.in-OneOf.is ∙ ap₂ (λ value options. e.OneOf value options c.in-OneOf.ty) (sym c.get-sought.ensures) (sym c.as_slice-listed.ensures)) c.requires.typed in
    (search (rules, the_lemmas), (one_of_value c.args.batch.now c.get-sought.result.now c.as_slice-listed.result.now c.in-OneOf.ty typed, (c.requires.fit, c.requires.exist)))

pub eval_rows-look_each-requires : goal.eval_rows-look_each-requires
eval_rows-look_each-requires t c =
    let typed = subst (IsTypedOver (types_of c.args.batch.now)) (c.in-OneOf.is ∙ ap₂ (λ value options. e.OneOf value options c.in-OneOf.ty) (sym c.get-sought.ensures) (sym c.as_slice-listed.ensures)) c.requires.typed in
    (search (rules, the_lemmas), (typed, (c.in_ok-values-in-OneOf.ensures, (c.requires.fit, c.requires.exist))))

pub eval_rows-returns-in_ok-values-in-OneOf : goal.eval_rows-returns-in_ok-values-in-OneOf
eval_rows-returns-in_ok-values-in-OneOf t c =
    subst (λ (one : Expr). IfOk c.look_each.result (λ out. IsUntil (eval_at one c.args.batch.now) c.args.rows.now (ty_of one).kind out.0 out.1))
    (sym (c.in-OneOf.is ∙ ap₂ (λ value options. e.OneOf value options c.in-OneOf.ty) (sym c.get-sought.ensures) (sym c.as_slice-listed.ensures))) c.look_each.ensures

pub conditional-arm_columns-requires : goal.conditional-arm_columns-requires
conditional-arm_columns-requires t c =
    let n = length c.args.arms.now in
    let short = AreUntil-length (λ i. tried n 0 (Ok n) (map (λ (arm : Expr × Expr). eval_at arm.0 c.args.batch.now i) c.args.arms.now)) c.args.rows.now c.in_ok-choices.choices.items c.in_ok-choices.stop c.in_ok-choices.ensures in
    let long : length c.as_slice.result.now ≤ length c.args.rows.now = subst (λ numbers. length numbers ≤ length c.args.rows.now) (sym c.as_slice.ensures.value) short in
    (search (rules, the_lemmas), (long, (c.requires.values, (c.requires.kinds, (c.requires.fit, c.requires.exist)))))

pub conditional-returns-clause-columns : goal.conditional-returns-clause-columns
conditional-returns-clause-columns t c = λ other.
    subst (λ numbers. AreChosen (arm_at c.args.arms.now other) c.args.batch.now c.args.rows.now numbers c.args.ty.kind c.in_ok-columns.columns.items) c.as_slice.ensures.value (c.in_ok-columns.ensures.columns other)

pub literal_columns-case_columns-requires : goal.literal_columns-case_columns-requires
literal_columns-case_columns-requires t c =
    let numbers_long : length c.in_ok-choices.choices.items ≡ length (found_values c.args.subjects.now) = ap length c.in_ok-choices.ensures ∙ length-map (found_values c.args.subjects.now) (λ value. place_of value (literals c.args.arms.now)) in
    let short : length c.in_ok-choices.choices.items ≤ length c.args.rows.now = omega (arith, numbers_long, c.requires.long) in
    let long : length c.as_slice.result.now ≤ length c.args.rows.now = subst (λ numbers. length numbers ≤ length c.args.rows.now) (sym c.as_slice.ensures.value) short in
    (search (rules, the_lemmas), (long, (c.requires.values, (c.requires.kinds, (c.requires.fit, c.requires.exist)))))

pub literal_columns-returns-clause-columns : goal.literal_columns-returns-clause-columns
literal_columns-returns-clause-columns t c = λ other.
    subst (λ numbers. AreChosen (arm_at c.args.arms.now other) c.args.batch.now c.args.rows.now numbers c.args.ty.kind c.in_ok-columns.columns.items) c.as_slice.ensures.value (c.in_ok-columns.ensures.columns other)

pub arm_columns-loop-arm-init : goal.arm_columns-loop-arm-init
arm_columns-loop-arm-init t c =
    (ap length c.new-columns.ensures.items, λ other. subst (AreChosen (arm_at c.args.arms.now other) c.args.batch.now c.args.rows.now c.args.choices.now c.args.ty.kind) (sym c.new-columns.ensures.items) (chosen-none (arm_at c.args.arms.now other) c.args.batch.now c.args.rows.now c.args.choices.now c.args.ty.kind))

pub arm_columns-chosen_column-requires : goal.arm_columns-chosen_column-requires
arm_columns-chosen_column-requires t c =
    let typed = holds_at (λ (arm : Expr × Expr). IsTypedOver (types_of c.args.batch.now) arm.1) c.args.arms.now c.loop-arm.arm-index c.arm-item.result c.requires.typed (search rules) c.arm-item.is in
    (search (rules, the_lemmas), (c.requires.long, (typed, (c.requires.fit, c.requires.exist))))

pub arm_columns-loop-arm-preserved : goal.arm_columns-loop-arm-preserved
arm_columns-loop-arm-preserved t c =
    let n = c.loop-arm.arm-index in
    let arms = c.args.arms.now in
    let columns = c.loop-arm.columns.items in
    let there : n < length arms = search rules in
    let grown : c.push.new.self.items ≡ columns ++ c.in_ok-column.column ∷ [] = search rules in
    let count : length c.push.new.self.items ≡ n + 1 = ap length grown ∙ length-append columns (c.in_ok-column.column ∷ []) ∙ ap (λ k. k + 1) c.loop-arm.invariant.0 in
    let at : c.len-number.result ≡ length columns = search rules in
    let kind = holds_at (λ (arm : Expr × Expr). (ty_of arm.1).kind ≡ c.args.ty.kind) arms n c.arm-item.result c.requires.kinds there c.arm-item.is in (
      count,
      λ other. subst (AreChosen (arm_at arms other) c.args.batch.now c.args.rows.now c.args.choices.now c.args.ty.kind) (sym grown)
          (chosen_turn arms other c.args.batch.now c.args.rows.now c.args.choices.now c.args.ty.kind columns c.in_ok-column.column n c.len-number.result c.arm-item.result there c.arm-item.is c.loop-arm.invariant.0 at kind (c.loop-arm.invariant.1 other) c.in_ok-column.ensures),
    )

pub arm_columns-returns-clause-count : goal.arm_columns-returns-clause-count
arm_columns-returns-clause-count t c =
    let end : length c.args.arms.now ≤ c.loop-arm.arm-index = search rules in
    omega (arith, end, c.loop-arm.invariant.0)

pub case_columns-loop-arm-init : goal.case_columns-loop-arm-init
case_columns-loop-arm-init t c =
    (ap length c.new-columns.ensures.items, λ other. subst (AreChosen (arm_at c.args.arms.now other) c.args.batch.now c.args.rows.now c.args.choices.now c.args.ty.kind) (sym c.new-columns.ensures.items) (chosen-none (arm_at c.args.arms.now other) c.args.batch.now c.args.rows.now c.args.choices.now c.args.ty.kind))

pub case_columns-chosen_column-requires : goal.case_columns-chosen_column-requires
case_columns-chosen_column-requires t c =
    let typed = holds_at (λ (arm : Value × Expr). IsTypedOver (types_of c.args.batch.now) arm.1) c.args.arms.now c.loop-arm.arm-index c.arm-item.result c.requires.typed (search rules) c.arm-item.is in
    (search (rules, the_lemmas), (c.requires.long, (typed, (c.requires.fit, c.requires.exist))))

pub case_columns-loop-arm-preserved : goal.case_columns-loop-arm-preserved
case_columns-loop-arm-preserved t c =
    let n = c.loop-arm.arm-index in
    let arms = c.args.arms.now in
    let columns = c.loop-arm.columns.items in
    let there : n < length arms = search rules in
    let grown : c.push.new.self.items ≡ columns ++ c.in_ok-column.column ∷ [] = search rules in
    let count : length c.push.new.self.items ≡ n + 1 = ap length grown ∙ length-append columns (c.in_ok-column.column ∷ []) ∙ ap (λ k. k + 1) c.loop-arm.invariant.0 in
    let at : c.len-number.result ≡ length columns = search rules in
    let kind = holds_at (λ (arm : Value × Expr). (ty_of arm.1).kind ≡ c.args.ty.kind) arms n c.arm-item.result c.requires.kinds there c.arm-item.is in (
      count,
      λ other. subst (AreChosen (arm_at arms other) c.args.batch.now c.args.rows.now c.args.choices.now c.args.ty.kind) (sym grown)
          (chosen_turn arms other c.args.batch.now c.args.rows.now c.args.choices.now c.args.ty.kind columns c.in_ok-column.column n c.len-number.result c.arm-item.result there c.arm-item.is c.loop-arm.invariant.0 at kind (c.loop-arm.invariant.1 other) c.in_ok-column.ensures),
    )

pub case_columns-returns-clause-count : goal.case_columns-returns-clause-count
case_columns-returns-clause-count t c =
    let end : length c.args.arms.now ≤ c.loop-arm.arm-index = search rules in
    omega (arith, end, c.loop-arm.invariant.0)

-- ---- options that are constants

pub look_each-among_constants-requires : goal.look_each-among_constants-requires
look_each-among_constants-requires t c = one_of_kind c.args.batch.now c.args.value.now c.args.options.now c.args.ty c.requires.typed

pub look_each-returns-in-Some : goal.look_each-returns-in-Some
look_each-returns-in-Some t c =
    let value = c.args.value.now in
    let options = c.args.options.now in
    let ty = c.args.ty in
    let P : Column → Type 0 = λ column. (value : Expr) (batch : Batch) (rows : List ℕ) (kind : Kind) (stop : Stop) →
    IsUntil (eval_at value batch) rows kind c.args.values.now stop → IsUntil (eval_at (e.OneOf value options ty) batch) rows kinds.Bool (Made column) stop in
    let answers : P c.in-Some.column = subst (λ (made : Option Column). IfSome made P) c.in-Some.is c.in_ok-column.ensures.answers in
    let kind = sym (one_of_kind c.args.batch.now value options ty c.requires.typed) ∙ ap (λ (one : Ty). one.kind) (type_in (Expr-F.OneOf value options ty) (e.OneOf value options ty) (rolls-OneOf value options ty)) in
    subst (λ kind. IsUntil (eval_at (e.OneOf value options ty) c.args.batch.now) c.args.rows.now kind (Made c.in-Some.column) c.args.stop) kind
    (answers value c.args.batch.now c.args.rows.now (ty_of value).kind c.args.stop c.requires.values)
