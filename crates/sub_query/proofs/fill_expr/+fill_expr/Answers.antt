-- Each node by what is made of its parts, and each loop by one item more.
use Rattle.std.proofs.Common.{◌≡◌, ◌∙◌, ℕ, ◌+◌, List, [], ◌∷◌, ◌++◌, ap, sym, subst, arith, rules}
use Rattle.sub_types.specs.declared.value.Value.{Value}
use Rattle.plan_typed.specs.declared.expr.Expr.{Expr}
use Rattle.plan_denote.specs.Holes.{filled_expr}
use Rattle.sub_query.specs.Known.{worths_at}
use Rattle.sub_query.specs.Parts.{arms_with, size_of_arms, choices_with, size_of_choices}
use Rattle.sub_query.proofs.ExprLaws.{AreExprs, AreArms, AreChoices, expr_more, arm_at, arm_more, choice_more, if_made, switch_made, size-If, size-Switch}
use Rattle.sub_query.proofs.fill_expr.+fill_expr.Goals as goal

pub fill_expr-returns-in_ok-arms-in-If-clause-made : goal.fill_expr-returns-in_ok-arms-in-If-clause-made
fill_expr-returns-in_ok-arms-in-If-clause-made t c =
    let k = worths_at c.args.worths.now in
    let n = c.args.next.now in
    let arms : c.in_ok-arms-in-If.arms ≡ arms_with k (n + 1) c.in-If.arms = search rules in
    let place : c.fill_arms-arms.new.next ≡ n + 1 + size_of_arms k c.in-If.arms = search rules in
    let other : c.in_ok-arms-in-If.other ≡ (filled_expr k c.in-If.other).at c.fill_arms-arms.new.next = search rules in
    if_made k n c.fill_arms-arms.new.next c.in-If.arms c.in-If.other c.in-If.ty c.in_ok-arms-in-If.arms c.in_ok-arms-in-If.other arms place other
    ∙ ap (λ expr. (filled_expr k expr).at n) (sym c.in-If.is)

pub fill_expr-returns-in_ok-arms-in-If-clause-next : goal.fill_expr-returns-in_ok-arms-in-If-clause-next
fill_expr-returns-in_ok-arms-in-If-clause-next t c =
    let k = worths_at c.args.worths.now in
    let n = c.args.next.now in
    let place : c.fill_arms-arms.new.next ≡ n + 1 + size_of_arms k c.in-If.arms = search rules in
    let end : c.fill_boxed.new.next ≡ c.fill_arms-arms.new.next + (filled_expr k c.in-If.other).size = search rules in
    let whole = ap (λ expr. (filled_expr k expr).size) c.in-If.is ∙ size-If k c.in-If.arms c.in-If.other c.in-If.ty in
    omega (arith, place, end, whole)

pub fill_expr-returns-in_ok-subject-in-Switch-clause-made : goal.fill_expr-returns-in_ok-subject-in-Switch-clause-made
fill_expr-returns-in_ok-subject-in-Switch-clause-made t c =
    let k = worths_at c.args.worths.now in
    let n = c.args.next.now in
    let old = c.in-Switch in
    let new = c.in_ok-subject-in-Switch in
    let subject : new.subject ≡ (filled_expr k old.subject).at (n + 1) = search rules in
    let place : c.fill_boxed-subject.new.next ≡ n + 1 + (filled_expr k old.subject).size = search rules in
    let arms : new.arms ≡ choices_with k c.fill_boxed-subject.new.next old.arms = search rules in
    let end : c.fill_choices-arms.new.next ≡ c.fill_boxed-subject.new.next + size_of_choices k old.arms = search rules in
    let other : new.other ≡ (filled_expr k old.other).at c.fill_choices-arms.new.next = search rules in
    switch_made k n c.fill_boxed-subject.new.next c.fill_choices-arms.new.next old.subject old.arms old.other old.ty new.subject new.arms new.other subject place arms end other
    ∙ ap (λ expr. (filled_expr k expr).at n) (sym old.is)

pub fill_expr-returns-in_ok-subject-in-Switch-clause-next : goal.fill_expr-returns-in_ok-subject-in-Switch-clause-next
fill_expr-returns-in_ok-subject-in-Switch-clause-next t c =
    let k = worths_at c.args.worths.now in
    let n = c.args.next.now in
    let old = c.in-Switch in
    let place : c.fill_boxed-subject.new.next ≡ n + 1 + (filled_expr k old.subject).size = search rules in
    let end : c.fill_choices-arms.new.next ≡ c.fill_boxed-subject.new.next + size_of_choices k old.arms = search rules in
    let last : c.fill_boxed-other.new.next ≡ c.fill_choices-arms.new.next + (filled_expr k old.other).size = search rules in
    let whole = ap (λ expr. (filled_expr k expr).size) old.is ∙ size-Switch k old.subject old.arms old.other old.ty in
    omega (arith, place, end, last, whole)

pub fill_exprs-loop-expr-preserved : goal.fill_exprs-loop-expr-preserved
fill_exprs-loop-expr-preserved t c =
    let k = worths_at c.args.worths.now in
    let new = c.in_ok-fill_expr.field-0 in
    let pushed : c.push.new.self.items ≡ c.loop-expr.made.items ++ new ∷ [] = search rules in
    subst (λ (made : List Expr). AreExprs k c.args.next.now c.args.exprs.now (c.loop-expr.expr-index + 1) made c.fill_expr.new.next) (sym pushed)
    (expr_more k c.args.next.now c.args.exprs.now c.loop-expr.expr-index c.expr-item.result c.expr-item.result c.loop-expr.made.items new c.loop-expr.next c.fill_expr.new.next
    (omega arith) c.expr-item.is c.loop-expr.invariant c.in_ok-fill_expr.ensures.made c.in_ok-fill_expr.ensures.next)

pub fill_arms-loop-arm-preserved : goal.fill_arms-loop-arm-preserved
fill_arms-loop-arm-preserved t c =
    let k = worths_at c.args.worths.now in
    let new = c.in_ok-zip.field-0 in
    let arm = c.arm-item.result in
    let pushed : c.push.new.self.items ≡ c.loop-arm.made.items ++ new ∷ [] = search rules in
    let test : new.0 ≡ (filled_expr k arm.0).at c.loop-arm.next = search rules in
    let place : c.fill_expr-test.new.next ≡ c.loop-arm.next + (filled_expr k arm.0).size = search rules in
    let value : new.1 ≡ (filled_expr k arm.1).at c.fill_expr-test.new.next = search rules in
    let end : c.fill_expr.new.next ≡ c.fill_expr-test.new.next + (filled_expr k arm.1).size = search rules in
    let both : new ≡ arm_at k c.loop-arm.next arm = λ i. (test i, (value ∙ ap (λ (at : ℕ). (filled_expr k arm.1).at at) place) i) in
    subst (λ (made : List (Expr × Expr)). AreArms k c.args.next.now c.args.arms.now (c.loop-arm.arm-index + 1) made c.fill_expr.new.next) (sym pushed)
    (arm_more k c.args.next.now c.args.arms.now c.loop-arm.arm-index arm arm c.loop-arm.made.items new c.loop-arm.next c.fill_expr.new.next
    (omega arith) c.arm-item.is c.loop-arm.invariant both (omega (arith, place, end)))

pub fill_choices-loop-choice-preserved : goal.fill_choices-loop-choice-preserved
fill_choices-loop-choice-preserved t c =
    let k = worths_at c.args.worths.now in
    let new = c.in_ok-zip.field-0 in
    let choice = c.choice-item.result in
    let pushed : c.push.new.self.items ≡ c.loop-choice.made.items ++ new ∷ [] = search rules in
    let value : new.0 ≡ choice.0 = search rules in
    let expr : new.1 ≡ (filled_expr k choice.1).at c.loop-choice.next = search rules in
    let end : c.fill_expr.new.next ≡ c.loop-choice.next + (filled_expr k choice.1).size = search rules in
    let both : new ≡ (choice.0, (filled_expr k choice.1).at c.loop-choice.next) = λ i. (value i, expr i) in
    subst (λ (made : List (Value × Expr)). AreChoices k c.args.next.now c.args.choices.now (c.loop-choice.choice-index + 1) made c.fill_expr.new.next) (sym pushed)
    (choice_more k c.args.next.now c.args.choices.now c.loop-choice.choice-index choice choice c.loop-choice.made.items new c.loop-choice.next c.fill_expr.new.next
    (omega arith) c.choice-item.is c.loop-choice.invariant both end)
