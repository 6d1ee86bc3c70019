-- Each loop has copied the first so many items.
use Rattle.std.proofs.Common.{◌≡◌, take}
use Rattle.plan_typed.proofs.expr_copy.+expr_copy.Given as goal

abbrev pub invariant-copy_exprs-loop-expr : goal.invariant-copy_exprs-loop-expr
invariant-copy_exprs-loop-expr l = l.copies.items ≡ take l.expr-index l.exprs

abbrev pub invariant-copy_arms-loop-arm : goal.invariant-copy_arms-loop-arm
invariant-copy_arms-loop-arm l = l.copies.items ≡ take l.arm-index l.arms

abbrev pub invariant-copy_choices-loop-choice : goal.invariant-copy_choices-loop-choice
invariant-copy_choices-loop-choice l = l.copies.items ≡ take l.choice-index l.choices
