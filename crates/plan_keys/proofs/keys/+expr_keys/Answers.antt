use Rattle.std.proofs.Common.{rules, append_assoc}
use Rattle.std.proofs.lemmas.Result.{IfOk-equal}
use Rattle.plan_keys.proofs.KeyLevels.{key_const, key_column, key_call, key_if, key_switch, key_one_of, key_cast}
use Rattle.plan_keys.proofs.keys.+expr_keys.Goals as goal

pub push_expr-returns-in_ok-push_head-in-Const : goal.push_expr-returns-in_ok-push_head-in-Const
push_expr-returns-in_ok-push_head-in-Const t c =
    let key = key_const c.args.expr.now c.in-Const.value c.in-Const.ty c.in-Const.is in search (rules, IfOk-equal, append_assoc)

pub push_expr-returns-in_ok-push_head-in-Column : goal.push_expr-returns-in_ok-push_head-in-Column
push_expr-returns-in_ok-push_head-in-Column t c =
    let key = key_column c.args.expr.now c.in-Column.index c.in-Column.ty c.in-Column.is in search (rules, IfOk-equal, append_assoc)

pub push_expr-returns-in_ok-push_count-in-Call : goal.push_expr-returns-in_ok-push_count-in-Call
push_expr-returns-in_ok-push_count-in-Call t c =
    let key = key_call c.args.expr.now c.in-Call.func c.in-Call.mode c.in-Call.args c.in-Call.ty c.in-Call.is in search (rules, IfOk-equal, append_assoc)

pub push_expr-returns-in_ok-push_arms-in-If : goal.push_expr-returns-in_ok-push_arms-in-If
push_expr-returns-in_ok-push_arms-in-If t c =
    let key = key_if c.args.expr.now c.in-If.arms c.in-If.other c.in-If.ty c.in-If.is in search (rules, IfOk-equal, append_assoc)

pub push_expr-returns-in_ok-push_choices-in-Switch : goal.push_expr-returns-in_ok-push_choices-in-Switch
push_expr-returns-in_ok-push_choices-in-Switch t c =
    let key = key_switch c.args.expr.now c.in-Switch.subject c.in-Switch.arms c.in-Switch.other c.in-Switch.ty c.in-Switch.is in search (rules, IfOk-equal, append_assoc)

pub push_expr-returns-in_ok-push_count-in-OneOf : goal.push_expr-returns-in_ok-push_count-in-OneOf
push_expr-returns-in_ok-push_count-in-OneOf t c =
    let key = key_one_of c.args.expr.now c.in-OneOf.value c.in-OneOf.options c.in-OneOf.ty c.in-OneOf.is in search (rules, IfOk-equal, append_assoc)

pub push_expr-returns-in_ok-push_number-in-Cast : goal.push_expr-returns-in_ok-push_number-in-Cast
push_expr-returns-in_ok-push_number-in-Cast t c =
    let key = key_cast c.args.expr.now c.in-Cast.input c.in-Cast.null_on_fail c.in-Cast.ty c.in-Cast.is in search (rules, IfOk-equal, append_assoc)
