-- How far each reader has to go: the levels below its message.
use Rattle.std.proofs.Common.{◌+◌, ◌*◌}
use Rattle.plan_decode.proofs.knot.+tree.Given as goal

abbrev pub decreases-relation : goal.decreases-relation
decreases-relation l = 2 * l.choice.now.below

abbrev pub decreases-relation-rel : goal.decreases-relation-rel
decreases-relation-rel l = 2 * l.inner.now.below + 1

abbrev pub decreases-relation-expr : goal.decreases-relation-expr
decreases-relation-expr l = 2 * l.inner.now.below + 1

abbrev pub decreases-expression : goal.decreases-expression
decreases-expression l = 2 * l.choice.now.below

abbrev pub decreases-expression-rel : goal.decreases-expression-rel
decreases-expression-rel l = 2 * l.inner.now.below + 1

abbrev pub decreases-expression-expr : goal.decreases-expression-expr
decreases-expression-expr l = 2 * l.inner.now.below + 1
