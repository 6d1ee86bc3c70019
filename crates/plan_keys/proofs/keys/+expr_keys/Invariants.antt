-- Each loop has written the first so many.
use Rattle.std.proofs.Common.{◌≡◌, ◌++◌, take}
use Rattle.std.specs.List.{flat_map}
use Rattle.sub_types.specs.declared.value.Value.{Value}
use Rattle.plan_typed.specs.declared.expr.Expr.{Expr}
use Rattle.plan_keys.specs.Keys.{expr_key, value_key}
use Rattle.plan_keys.proofs.keys.+expr_keys.Given as goal

abbrev pub invariant-push_exprs-loop-expr : goal.invariant-push_exprs-loop-expr
invariant-push_exprs-loop-expr l = l.out.items ≡ l.fn.out.items ++ flat_map expr_key (take l.expr-index l.exprs)

abbrev pub invariant-push_arms-loop-arm : goal.invariant-push_arms-loop-arm
invariant-push_arms-loop-arm l = l.out.items ≡ l.fn.out.items ++ flat_map (λ (arm : Expr × Expr). expr_key arm.0 ++ expr_key arm.1) (take l.arm-index l.arms)

abbrev pub invariant-push_choices-loop-choice : goal.invariant-push_choices-loop-choice
invariant-push_choices-loop-choice l = l.out.items ≡ l.fn.out.items ++ flat_map (λ (choice : Value × Expr). value_key choice.0 ++ expr_key choice.1) (take l.choice-index l.choices)
