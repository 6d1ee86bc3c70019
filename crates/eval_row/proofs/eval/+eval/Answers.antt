-- Each node, by what its parts are worth.
use Rattle.std.proofs.Common.{◌≡◌, ◌∙◌, ap, sym, subst, true, Option, Ok, Err, rules}
use Rattle.sub_types.specs.declared.value.Value.{Value}
use Rattle.plan_denote.specs.Computed.{Computed, ◌>>=◌}
use Rattle.plan_denote.specs.Eval.{eval}
use Rattle.plan_denote.specs.Logic.{first_equal, first_true}
use Rattle.eval_values.specs.Gives.{Gives}
use Rattle.eval_row.specs.Lists.{arms_at, choices_at, compared_to, worth, Picks}
use Rattle.eval_row.proofs.StepLaws.{picks_fault}
use Rattle.eval_row.proofs.TruthLaws.{walked-all}
use Rattle.plan_denote.proofs.EvalLaws.{eval-Const, eval-Column, eval-Call, eval-If, eval-Switch, eval-OneOf, eval-Cast}
use Rattle.eval_row.proofs.eval.+eval.Goals as goal

pub eval_expr-returns-in_err-subject-in-Switch : goal.eval_expr-returns-in_err-subject-in-Switch
eval_expr-returns-in_err-subject-in-Switch g t c = search (rules, eval-Switch)

pub eval_expr-returns-in_err-value-in-OneOf : goal.eval_expr-returns-in_err-value-in-OneOf
eval_expr-returns-in_err-value-in-OneOf g t c = search (rules, eval-OneOf)

pub eval_expr-returns-in_err-value-in-Cast : goal.eval_expr-returns-in_err-value-in-Cast
eval_expr-returns-in_err-value-in-Cast g t c = search (rules, eval-Cast)

pub eval_expr-returns-in-Const : goal.eval_expr-returns-in-Const
eval_expr-returns-in-Const g t c = search (rules, eval-Const)

pub eval_expr-returns-in-Column : goal.eval_expr-returns-in-Column
eval_expr-returns-in-Column g t c = search (rules, eval-Column)

pub eval_expr-returns-in-Call : goal.eval_expr-returns-in-Call
eval_expr-returns-in-Call g t c = search (rules, eval-Call)

pub eval_expr-returns-in-OneOf : goal.eval_expr-returns-in-OneOf
eval_expr-returns-in-OneOf g t c = search (rules, eval-OneOf)

pub eval_expr-returns : goal.eval_expr-returns
eval_expr-returns g t c = search (rules, eval-Cast)

pub eval_expr-returns-in_err-value-in-If : goal.eval_expr-returns-in_err-value-in-If
eval_expr-returns-in_err-value-in-If g t c =
    let row = g.R.RowValues.as_row c.args.row.now in
    let other = eval c.in-If.other row in
    let whole : eval c.args.expr.now row ≡ first_true (arms_at c.as_slice-in-If.result.now row) other =
    ap (λ expr. eval expr row) c.in-If.is ∙ eval-If c.in-If.arms c.in-If.other c.in-If.ty row ∙ ap (λ arms. first_true (arms_at arms row) other) (sym c.as_slice-in-If.ensures) in
    let is : c.from_residual-in_err-value-in-If.result ≡ Err c.in_err-value-in-If.field-0.0 = search rules in
    rw (is, whole) (picks_fault c.in_err-value-in-If.field-0.0 other (first_true (arms_at c.as_slice-in-If.result.now row) other) (c.in_err-value-in-If.ensures other))

pub eval_expr-returns-in-Some : goal.eval_expr-returns-in-Some
eval_expr-returns-in-Some g t c =
    let row = g.R.RowValues.as_row c.args.row.now in
    let other = eval c.in-If.other row in
    let picked : first_true (arms_at c.as_slice-in-If.result.now row) other ≡ Ok c.in-Some.value =
    subst (λ (found : Option Value). Picks (Ok found) other (first_true (arms_at c.as_slice-in-If.result.now row) other)) c.in-Some.is (c.in_ok-value-in-If.ensures other) in
    ap (λ expr. eval expr row) c.in-If.is ∙ eval-If c.in-If.arms c.in-If.other c.in-If.ty row ∙ ap (λ arms. first_true (arms_at arms row) other) (sym c.as_slice-in-If.ensures) ∙ picked

pub eval_expr-returns-in-If : goal.eval_expr-returns-in-If
eval_expr-returns-in-If g t c =
    let row = g.R.RowValues.as_row c.args.row.now in
    let other = eval c.in-If.other row in
    let picked : first_true (arms_at c.as_slice-in-If.result.now row) other ≡ other =
    subst (λ (found : Option Value). Picks (Ok found) other (first_true (arms_at c.as_slice-in-If.result.now row) other)) c.in-None.is (c.in_ok-value-in-If.ensures other) in
    let whole : eval c.args.expr.now row ≡ other =
    ap (λ expr. eval expr row) c.in-If.is ∙ eval-If c.in-If.arms c.in-If.other c.in-If.ty row ∙ ap (λ arms. first_true (arms_at arms row) other) (sym c.as_slice-in-If.ensures) ∙ picked in
    let found : Gives c.eval_expr.result other = search rules in
    subst (λ (computed : Computed). Gives c.eval_expr.result computed) (sym whole) found

pub eval_expr-returns-in_err-value-in-Switch : goal.eval_expr-returns-in_err-value-in-Switch
eval_expr-returns-in_err-value-in-Switch g t c =
    let row = g.R.RowValues.as_row c.args.row.now in
    let other = eval c.in-Switch.other row in
    let subject = c.in_ok-subject-in-Switch.subject in
    let one : eval c.in-Switch.subject row ≡ Ok subject = search rules in
    let whole : eval c.args.expr.now row ≡ first_equal subject (choices_at c.as_slice-in-Switch.result.now row) other =
    ap (λ expr. eval expr row) c.in-Switch.is ∙ eval-Switch c.in-Switch.subject c.in-Switch.arms c.in-Switch.other c.in-Switch.ty row
    ∙ ap (λ (first : Computed). first >>= (λ value. first_equal value (choices_at c.in-Switch.arms row) other)) one ∙ ap (λ arms. first_equal subject (choices_at arms row) other) (sym c.as_slice-in-Switch.ensures) in
    let is : c.from_residual-in_err-value-in-Switch.result ≡ Err c.in_err-value-in-Switch.field-0.0 = search rules in
    rw (is, whole) (picks_fault c.in_err-value-in-Switch.field-0.0 other (first_equal subject (choices_at c.as_slice-in-Switch.result.now row) other) (c.in_err-value-in-Switch.ensures other))

pub eval_expr-returns-in-Some-2 : goal.eval_expr-returns-in-Some-2
eval_expr-returns-in-Some-2 g t c =
    let row = g.R.RowValues.as_row c.args.row.now in
    let other = eval c.in-Switch.other row in
    let subject = c.in_ok-subject-in-Switch.subject in
    let one : eval c.in-Switch.subject row ≡ Ok subject = search rules in
    let picked : first_equal subject (choices_at c.as_slice-in-Switch.result.now row) other ≡ Ok c.in-Some-2.value =
    subst (λ (found : Option Value). Picks (Ok found) other (first_equal subject (choices_at c.as_slice-in-Switch.result.now row) other)) c.in-Some-2.is (c.in_ok-value-in-Switch.ensures other) in
    ap (λ expr. eval expr row) c.in-Switch.is ∙ eval-Switch c.in-Switch.subject c.in-Switch.arms c.in-Switch.other c.in-Switch.ty row
    ∙ ap (λ (first : Computed). first >>= (λ value. first_equal value (choices_at c.in-Switch.arms row) other)) one ∙ ap (λ arms. first_equal subject (choices_at arms row) other) (sym c.as_slice-in-Switch.ensures) ∙ picked

pub eval_expr-returns-in-Switch : goal.eval_expr-returns-in-Switch
eval_expr-returns-in-Switch g t c =
    let row = g.R.RowValues.as_row c.args.row.now in
    let other = eval c.in-Switch.other row in
    let subject = c.in_ok-subject-in-Switch.subject in
    let one : eval c.in-Switch.subject row ≡ Ok subject = search rules in
    let picked : first_equal subject (choices_at c.as_slice-in-Switch.result.now row) other ≡ other =
    subst (λ (found : Option Value). Picks (Ok found) other (first_equal subject (choices_at c.as_slice-in-Switch.result.now row) other)) c.in-None-2.is (c.in_ok-value-in-Switch.ensures other) in
    let whole : eval c.args.expr.now row ≡ other =
    ap (λ expr. eval expr row) c.in-Switch.is ∙ eval-Switch c.in-Switch.subject c.in-Switch.arms c.in-Switch.other c.in-Switch.ty row
    ∙ ap (λ (first : Computed). first >>= (λ value. first_equal value (choices_at c.in-Switch.arms row) other)) one ∙ ap (λ arms. first_equal subject (choices_at arms row) other) (sym c.as_slice-in-Switch.ensures) ∙ picked in
    let found : Gives c.eval_expr-in-None-2.result other = search rules in
    subst (λ (computed : Computed). Gives c.eval_expr-in-None-2.result computed) (sym whole) found

pub first_truth-loop-arg-init : goal.first_truth-loop-arg-init
first_truth-loop-arg-init g t c = walked-all c.args.end (worth c.args.args.now (g.R.RowValues.as_row c.args.row.now))

pub is_one_of-loop-option-init : goal.is_one_of-loop-option-init
is_one_of-loop-option-init g t c = walked-all true (compared_to c.args.value.now (worth c.args.options.now (g.R.RowValues.as_row c.args.row.now)))
