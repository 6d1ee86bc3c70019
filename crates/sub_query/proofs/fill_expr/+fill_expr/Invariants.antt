-- Each loop has made the first so many items, and counted their nodes.
use Rattle.sub_query.specs.Known.{worths_at}
use Rattle.sub_query.proofs.ExprLaws.{AreExprs, AreArms, AreChoices}
use Rattle.sub_query.proofs.fill_expr.+fill_expr.Given as goal

abbrev pub invariant-fill_exprs-loop-expr : goal.invariant-fill_exprs-loop-expr
invariant-fill_exprs-loop-expr l = AreExprs (worths_at l.worths) l.initial.next l.exprs l.expr-index l.made.items l.next

abbrev pub invariant-fill_arms-loop-arm : goal.invariant-fill_arms-loop-arm
invariant-fill_arms-loop-arm l = AreArms (worths_at l.worths) l.initial.next l.arms l.arm-index l.made.items l.next

abbrev pub invariant-fill_choices-loop-choice : goal.invariant-fill_choices-loop-choice
invariant-fill_choices-loop-choice l = AreChoices (worths_at l.worths) l.initial.next l.choices l.choice-index l.made.items l.next
