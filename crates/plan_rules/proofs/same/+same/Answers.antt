use Rattle.std.proofs.Common.{rules, arith, ◌≡◌, ◌∙◌, sym, ◌&&◌, true, false}
use Rattle.plan_typed.specs.declared.expr.Expr.{Expr}
use Rattle.sub_types.specs.declared.value.Value.{Value}
use Rattle.plan_verdict.specs.Same.{same_expr, same_value}
use Rattle.plan_rules.proofs.SameLaws.{same_const, same_column, same_call, same_if, same_switch, same_one_of, same_cast, other_const, other_column, other_call, other_if, other_switch, other_one_of, other_cast}
use Rattle.plan_rules.proofs.ListLaws.{pointwise-more, pointwise-fails}
use Rattle.plan_rules.proofs.same.+same.Goals as goal

pub are_same-returns-then-not-is_same : goal.are_same-returns-then-not-is_same
are_same-returns-then-not-is_same t c =
    sym (pointwise-fails same_expr c.args.a.now c.args.b.now c.loop-i.i c.index-a-i.result c.index-b-i.result c.loop-i-test.true c.index-a-i.is c.index-b-i.is (sym c.is_same.ensures ∙ c.if-not-is_same.true))

pub are_same-loop-i-preserved : goal.are_same-loop-i-preserved
are_same-loop-i-preserved t c =
    pointwise-more same_expr c.args.a.now c.args.b.now c.loop-i.i c.index-a-i.result c.index-b-i.result c.loop-i-test.true (omega arith) c.index-a-i.is c.index-b-i.is c.loop-i.invariant (sym c.is_same.ensures ∙ c.if-not-is_same.false)

pub are_same_arms-returns-then-not-is_same : goal.are_same_arms-returns-then-not-is_same
are_same_arms-returns-then-not-is_same t c =
    let test : (same_expr c.index-a-i.result.0 c.index-b-i.result.0 && same_expr c.index-a-i.result.1 c.index-b-i.result.1) ≡ false = search rules in
    sym (pointwise-fails (λ (arm other : Expr × Expr). same_expr arm.0 other.0 && same_expr arm.1 other.1) c.args.a.now c.args.b.now c.loop-i.i c.index-a-i.result c.index-b-i.result c.loop-i-test.true c.index-a-i.is c.index-b-i.is test)

pub are_same_arms-loop-i-preserved : goal.are_same_arms-loop-i-preserved
are_same_arms-loop-i-preserved t c =
    let test : (same_expr c.index-a-i.result.0 c.index-b-i.result.0 && same_expr c.index-a-i.result.1 c.index-b-i.result.1) ≡ true = search rules in
    pointwise-more (λ (arm other : Expr × Expr). same_expr arm.0 other.0 && same_expr arm.1 other.1) c.args.a.now c.args.b.now c.loop-i.i c.index-a-i.result c.index-b-i.result c.loop-i-test.true (omega arith) c.index-a-i.is c.index-b-i.is c.loop-i.invariant test

pub are_same_choices-returns-then-not-is_same : goal.are_same_choices-returns-then-not-is_same
are_same_choices-returns-then-not-is_same t c =
    let test : (same_value c.index-a-i.result.0 c.index-b-i.result.0 && same_expr c.index-a-i.result.1 c.index-b-i.result.1) ≡ false = search rules in
    sym (pointwise-fails (λ (choice other : Value × Expr). same_value choice.0 other.0 && same_expr choice.1 other.1) c.args.a.now c.args.b.now c.loop-i.i c.index-a-i.result c.index-b-i.result c.loop-i-test.true c.index-a-i.is c.index-b-i.is test)

pub are_same_choices-loop-i-preserved : goal.are_same_choices-loop-i-preserved
are_same_choices-loop-i-preserved t c =
    let test : (same_value c.index-a-i.result.0 c.index-b-i.result.0 && same_expr c.index-a-i.result.1 c.index-b-i.result.1) ≡ true = search rules in
    pointwise-more (λ (choice other : Value × Expr). same_value choice.0 other.0 && same_expr choice.1 other.1) c.args.a.now c.args.b.now c.loop-i.i c.index-a-i.result c.index-b-i.result c.loop-i-test.true (omega arith) c.index-a-i.is c.index-b-i.is c.loop-i.invariant test

pub is_same-returns-then-is_same_value : goal.is_same-returns-then-is_same_value
is_same-returns-then-is_same_value t c =
    let all = same_const c.args.a.now c.args.b.now c.in-Const-Const.value c.in-Const-Const.other c.in-Const-Const.ty c.in-Const-Const.other_ty c.in-Const-Const.is-0 c.in-Const-Const.is-1 in search rules

pub is_same-returns-else-is_same_value : goal.is_same-returns-else-is_same_value
is_same-returns-else-is_same_value t c =
    let all = same_const c.args.a.now c.args.b.now c.in-Const-Const.value c.in-Const-Const.other c.in-Const-Const.ty c.in-Const-Const.other_ty c.in-Const-Const.is-0 c.in-Const-Const.is-1 in search rules

pub is_same-returns-then-index-other : goal.is_same-returns-then-index-other
is_same-returns-then-index-other t c =
    let all = same_column c.args.a.now c.args.b.now c.in-Column-Column.index c.in-Column-Column.other c.in-Column-Column.ty c.in-Column-Column.other_ty c.in-Column-Column.is-0 c.in-Column-Column.is-1 in search rules

pub is_same-returns-else-index-other : goal.is_same-returns-else-index-other
is_same-returns-else-index-other t c =
    let all = same_column c.args.a.now c.args.b.now c.in-Column-Column.index c.in-Column-Column.other c.in-Column-Column.ty c.in-Column-Column.other_ty c.in-Column-Column.is-0 c.in-Column-Column.is-1 in search rules

pub is_same-returns-then-are_same : goal.is_same-returns-then-are_same
is_same-returns-then-are_same t c =
    let all = same_call c.args.a.now c.args.b.now c.in-Call-Call.func c.in-Call-Call.other c.in-Call-Call.mode c.in-Call-Call.other_mode c.in-Call-Call.args c.in-Call-Call.others c.in-Call-Call.ty c.in-Call-Call.other_ty c.in-Call-Call.is-0 c.in-Call-Call.is-1 in search rules

pub is_same-returns-else-are_same : goal.is_same-returns-else-are_same
is_same-returns-else-are_same t c =
    let all = same_call c.args.a.now c.args.b.now c.in-Call-Call.func c.in-Call-Call.other c.in-Call-Call.mode c.in-Call-Call.other_mode c.in-Call-Call.args c.in-Call-Call.others c.in-Call-Call.ty c.in-Call-Call.other_ty c.in-Call-Call.is-0 c.in-Call-Call.is-1 in search rules

pub is_same-returns-then-is_same : goal.is_same-returns-then-is_same
is_same-returns-then-is_same t c =
    let all = same_if c.args.a.now c.args.b.now c.in-If-If.arms c.in-If-If.other_arms c.in-If-If.other c.in-If-If.otherwise c.in-If-If.ty c.in-If-If.other_ty c.in-If-If.is-0 c.in-If-If.is-1 in search rules

pub is_same-returns-else-is_same : goal.is_same-returns-else-is_same
is_same-returns-else-is_same t c =
    let all = same_if c.args.a.now c.args.b.now c.in-If-If.arms c.in-If-If.other_arms c.in-If-If.other c.in-If-If.otherwise c.in-If-If.ty c.in-If-If.other_ty c.in-If-If.is-0 c.in-If-If.is-1 in search rules

pub is_same-returns-then-is_same-3 : goal.is_same-returns-then-is_same-3
is_same-returns-then-is_same-3 t c =
    let all = same_switch c.args.a.now c.args.b.now c.in-Switch-Switch.subject c.in-Switch-Switch.other_subject c.in-Switch-Switch.arms c.in-Switch-Switch.other_arms c.in-Switch-Switch.other c.in-Switch-Switch.otherwise c.in-Switch-Switch.ty c.in-Switch-Switch.other_ty c.in-Switch-Switch.is-0 c.in-Switch-Switch.is-1 in search rules

pub is_same-returns-else-is_same-3 : goal.is_same-returns-else-is_same-3
is_same-returns-else-is_same-3 t c =
    let all = same_switch c.args.a.now c.args.b.now c.in-Switch-Switch.subject c.in-Switch-Switch.other_subject c.in-Switch-Switch.arms c.in-Switch-Switch.other_arms c.in-Switch-Switch.other c.in-Switch-Switch.otherwise c.in-Switch-Switch.ty c.in-Switch-Switch.other_ty c.in-Switch-Switch.is-0 c.in-Switch-Switch.is-1 in search rules

pub is_same-returns-then-are_same-2 : goal.is_same-returns-then-are_same-2
is_same-returns-then-are_same-2 t c =
    let all = same_one_of c.args.a.now c.args.b.now c.in-OneOf-OneOf.value c.in-OneOf-OneOf.other c.in-OneOf-OneOf.options c.in-OneOf-OneOf.others c.in-OneOf-OneOf.ty c.in-OneOf-OneOf.other_ty c.in-OneOf-OneOf.is-0 c.in-OneOf-OneOf.is-1 in search rules

pub is_same-returns-else-are_same-2 : goal.is_same-returns-else-are_same-2
is_same-returns-else-are_same-2 t c =
    let all = same_one_of c.args.a.now c.args.b.now c.in-OneOf-OneOf.value c.in-OneOf-OneOf.other c.in-OneOf-OneOf.options c.in-OneOf-OneOf.others c.in-OneOf-OneOf.ty c.in-OneOf-OneOf.other_ty c.in-OneOf-OneOf.is-0 c.in-OneOf-OneOf.is-1 in search rules

pub is_same-returns-then-null_on_fail-other_null : goal.is_same-returns-then-null_on_fail-other_null
is_same-returns-then-null_on_fail-other_null t c =
    let all = same_cast c.args.a.now c.args.b.now c.in-Cast-Cast.input c.in-Cast-Cast.other c.in-Cast-Cast.null_on_fail c.in-Cast-Cast.other_null c.in-Cast-Cast.ty c.in-Cast-Cast.other_ty c.in-Cast-Cast.is-0 c.in-Cast-Cast.is-1 in search rules

pub is_same-returns-else-null_on_fail-other_null : goal.is_same-returns-else-null_on_fail-other_null
is_same-returns-else-null_on_fail-other_null t c =
    let all = same_cast c.args.a.now c.args.b.now c.in-Cast-Cast.input c.in-Cast-Cast.other c.in-Cast-Cast.null_on_fail c.in-Cast-Cast.other_null c.in-Cast-Cast.ty c.in-Cast-Cast.other_ty c.in-Cast-Cast.is-0 c.in-Cast-Cast.is-1 in search rules

pub is_same-returns-in_default : goal.is_same-returns-in_default
is_same-returns-in_default t c = sym (other_const c.args.a.now c.args.b.now _ _ c.in_default.is-0 c.in_default.not-Const-1)

pub is_same-returns-in_default-2 : goal.is_same-returns-in_default-2
is_same-returns-in_default-2 t c = sym (other_column c.args.a.now c.args.b.now _ _ c.in_default.is-0 c.in_default.not-Column-1)

pub is_same-returns-in_default-3 : goal.is_same-returns-in_default-3
is_same-returns-in_default-3 t c = sym (other_call c.args.a.now c.args.b.now _ _ _ _ c.in_default.is-0 c.in_default.not-Call-1)

pub is_same-returns-in_default-4 : goal.is_same-returns-in_default-4
is_same-returns-in_default-4 t c = sym (other_if c.args.a.now c.args.b.now _ _ _ c.in_default.is-0 c.in_default.not-If-1)

pub is_same-returns-in_default-5 : goal.is_same-returns-in_default-5
is_same-returns-in_default-5 t c = sym (other_switch c.args.a.now c.args.b.now _ _ _ _ c.in_default.is-0 c.in_default.not-Switch-1)

pub is_same-returns-in_default-6 : goal.is_same-returns-in_default-6
is_same-returns-in_default-6 t c = sym (other_one_of c.args.a.now c.args.b.now _ _ _ c.in_default.is-0 c.in_default.not-OneOf-1)

pub is_same-returns-in_default-7 : goal.is_same-returns-in_default-7
is_same-returns-in_default-7 t c = sym (other_cast c.args.a.now c.args.b.now _ _ _ c.in_default.is-0 c.in_default.not-Cast-1)
