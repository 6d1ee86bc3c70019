-- Each row has an answer or an option that is missing, as the laws of one row say.
use Rattle.std.proofs.Common.{rules, arith, ◌≡◌, ◌∙◌, ℕ, ◌+◌, ◌<◌, ◌++◌, ◌∷◌, [], length, Option, Some, None, sym, ap, subst}
use Rattle.std.proofs.lemmas.List.{length-append}
use Rattle.std.proofs.lemmas.List.Elements.{All-get_or}
use Rattle.sub_types.specs.Value.{InKind}
use Rattle.sub_types.specs.declared.kind.Kind.TheVariants as kinds
use Rattle.sub_types.specs.declared.kind.Ty.{Ty}
use Rattle.sub_types.specs.declared.value.Value.{Value}
use Rattle.sub_types.specs.declared.value.Value.TheVariants.{Null}
use Rattle.batch.specs.ColumnValues.{values_of}
use Rattle.kernels.specs.Until.{Until}
use Rattle.batch_nodes.specs.Found.{found_values}
use Rattle.batch_nodes.specs.Options.{Sought, paired, IsAnswer}
use Rattle.batch_calls.proofs.SoughtLaws.{IsLookedSoFar, looked-none, looked-step, looked-stopped, looked-end, answer_in_kind}
use Rattle.batch_calls.proofs.options.look.Goals as goal

pub loop-i-init : goal.loop-i-init
loop-i-init c = (
  c.new-built.ensures.ty,
  ap length c.new-built.ensures.values,
  looked-none c.args.rows.now (found_values c.args.values.now) (values_of c.args.answers.now.values) c.requires.same c.requires.long c.args.stop (found_values c.args.options.now) c.args.options_stop c.new-built.result.values c.new-built.ensures.values,
)

pub push-requires : goal.push-requires
push-requires c =
    let answers = values_of c.args.answers.now.values in
    let options = found_values c.args.options.now in
    let there : c.loop-i.i < length answers = search rules in
    let e : c.in_ok-answer-2.field-0 ≡ Some (c.in-Some.answer, c.in-Some.now_used) = search rules in
    let is : IsAnswer c.in_ok-value.value c.in_ok-answer.answer options c.loop-i.used (Some (c.in-Some.answer, c.in-Some.now_used)) =
    subst (λ (one : Option (Value × ℕ)). IsAnswer c.in_ok-value.value c.in_ok-answer.answer options c.loop-i.used one) e c.in_ok-answer-2.ensures in
    let own : InKind c.args.answers.now.ty.kind c.in_ok-answer.answer =
    subst (InKind c.args.answers.now.ty.kind) (sym c.in_ok-answer.ensures) (All-get_or (InKind c.args.answers.now.ty.kind) answers c.loop-i.i Null there c.args.answers.now.in_kind) in
    let fits : InKind kinds.Bool c.in_ok-answer.answer = subst (λ kind. InKind kind c.in_ok-answer.answer) c.requires.of own in
    let same : c.loop-i.built.ty ≡ c.args.ty = c.loop-i.invariant.0 in
    subst (λ kind. InKind kind c.in-Some.answer) (sym (ap (λ (one : Ty). one.kind) same ∙ c.requires.kind)) (answer_in_kind c.in_ok-value.value c.in_ok-answer.answer options c.loop-i.used (c.in-Some.answer, c.in-Some.now_used) is fits)

pub returns-in-None-clause-values : goal.returns-in-None-clause-values
returns-in-None-clause-values c =
    let found = found_values c.args.values.now in
    let answers = values_of c.args.answers.now.values in
    let options = found_values c.args.options.now in
    let there : c.loop-i.i < length answers = search rules in
    let e : c.in_ok-answer-2.field-0 ≡ None = search rules in
    let is : IsAnswer c.in_ok-value.value c.in_ok-answer.answer options c.loop-i.used None = subst (λ (one : Option (Value × ℕ)). IsAnswer c.in_ok-value.value c.in_ok-answer.answer options c.loop-i.used one) e c.in_ok-answer-2.ensures in
    ap (paired found) c.finish.ensures.values
    ∙ sym (ap (λ (found : Until Sought). found.values) (looked-stopped c.args.rows.now found answers c.requires.same c.requires.long c.args.stop options c.args.options_stop c.loop-i.i c.loop-i.used c.in_ok-value.value c.in_ok-answer.answer c.loop-i.built.values c.loop-i.invariant.2 there c.in_ok-value.ensures c.in_ok-answer.ensures is))

pub returns-in-None-clause-stop : goal.returns-in-None-clause-stop
returns-in-None-clause-stop c =
    let found = found_values c.args.values.now in
    let answers = values_of c.args.answers.now.values in
    let options = found_values c.args.options.now in
    let there : c.loop-i.i < length answers = search rules in
    let e : c.in_ok-answer-2.field-0 ≡ None = search rules in
    let is : IsAnswer c.in_ok-value.value c.in_ok-answer.answer options c.loop-i.used None = subst (λ (one : Option (Value × ℕ)). IsAnswer c.in_ok-value.value c.in_ok-answer.answer options c.loop-i.used one) e c.in_ok-answer-2.ensures in
    sym (ap (λ (found : Until Sought). found.stop) (looked-stopped c.args.rows.now found answers c.requires.same c.requires.long c.args.stop options c.args.options_stop c.loop-i.i c.loop-i.used c.in_ok-value.value c.in_ok-answer.answer c.loop-i.built.values c.loop-i.invariant.2 there c.in_ok-value.ensures c.in_ok-answer.ensures is))

pub returns-in-None-clause-same : goal.returns-in-None-clause-same
returns-in-None-clause-same c =
    let answers = values_of c.args.answers.now.values in
    let there : c.loop-i.i < length answers = search rules in
    omega (arith, there, c.requires.same, c.loop-i.invariant.1, ap length c.finish.ensures.values)

pub loop-i-preserved : goal.loop-i-preserved
loop-i-preserved c =
    let found = found_values c.args.values.now in
    let answers = values_of c.args.answers.now.values in
    let options = found_values c.args.options.now in
    let there : c.loop-i.i < length answers = search rules in
    let e : c.in_ok-answer-2.field-0 ≡ Some (c.in-Some.answer, c.in-Some.now_used) = search rules in
    let is : IsAnswer c.in_ok-value.value c.in_ok-answer.answer options c.loop-i.used (Some (c.in-Some.answer, c.in-Some.now_used)) =
    subst (λ (one : Option (Value × ℕ)). IsAnswer c.in_ok-value.value c.in_ok-answer.answer options c.loop-i.used one) e c.in_ok-answer-2.ensures in
    let ty : c.push.new.self.ty ≡ c.args.ty = search rules in
    let grown : c.push.new.self.values ≡ c.loop-i.built.values ++ c.in-Some.answer ∷ [] = search rules in
    let count : length c.push.new.self.values ≡ c.loop-i.i + 1 = ap length grown ∙ length-append c.loop-i.built.values (c.in-Some.answer ∷ []) ∙ ap (λ n. n + 1) c.loop-i.invariant.1 in (
      ty,
      count,
      subst (IsLookedSoFar c.args.rows.now found answers c.requires.same c.requires.long c.args.stop options c.args.options_stop (c.loop-i.i + 1) c.in-Some.now_used) (sym grown)
          (looked-step c.args.rows.now found answers c.requires.same c.requires.long c.args.stop options c.args.options_stop c.loop-i.i c.loop-i.used c.in_ok-value.value c.in_ok-answer.answer (c.in-Some.answer, c.in-Some.now_used) c.loop-i.built.values c.loop-i.invariant.2 c.loop-i.invariant.1 there c.in_ok-value.ensures c.in_ok-answer.ensures is),
    )

pub returns-clause-values : goal.returns-clause-values
returns-clause-values c =
    let found = found_values c.args.values.now in
    ap (paired found) c.finish-2.ensures.values
    ∙ sym (ap (λ (found : Until Sought). found.values) (looked-end c.args.rows.now found (values_of c.args.answers.now.values) c.requires.same c.requires.long c.args.stop (found_values c.args.options.now) c.args.options_stop c.loop-i.i c.loop-i.used c.loop-i.built.values c.loop-i.invariant.2 (search rules)))

pub returns-clause-stop : goal.returns-clause-stop
returns-clause-stop c =
    let found = found_values c.args.values.now in
    sym (ap (λ (found : Until Sought). found.stop) (looked-end c.args.rows.now found (values_of c.args.answers.now.values) c.requires.same c.requires.long c.args.stop (found_values c.args.options.now) c.args.options_stop c.loop-i.i c.loop-i.used c.loop-i.built.values c.loop-i.invariant.2 (search rules)))
