-- How far each has to go: the levels that are left.
use Rattle.std.proofs.Common.{◌+◌, ◌*◌}
use Rattle.plan_check.proofs.knot.+knot.Given as goal

abbrev pub decreases-relation : goal.decreases-relation
decreases-relation l = 2 * l.levels

abbrev pub decreases-relation-rels : goal.decreases-relation-rels
decreases-relation-rels l = 2 * l.below + 1

abbrev pub decreases-relation-exprs : goal.decreases-relation-exprs
decreases-relation-exprs l = 2 * l.below + 1

abbrev pub decreases-expression : goal.decreases-expression
decreases-expression l = 2 * l.levels

abbrev pub decreases-expression-rels : goal.decreases-expression-rels
decreases-expression-rels l = 2 * l.below + 1

abbrev pub decreases-expression-exprs : goal.decreases-expression-exprs
decreases-expression-exprs l = 2 * l.below + 1
