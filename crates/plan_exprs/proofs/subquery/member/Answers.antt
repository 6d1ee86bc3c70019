use Rattle.plan_scan.specs.declared.shape.Shape.TheVariants as s
use Rattle.plan_raw.specs.declared.expr.RawExpr.TheVariants as expr
use Rattle.plan_parts.proofs.ReaderLaws.{read_won}
use Rattle.plan_exprs.proofs.subquery.member.Goals as goal

pub returns-in-Some : goal.returns-in-Some
returns-in-Some g c = rw c.in-1.is (read_won c.args.won.now c.in_ok-merged-in-1.field-0 c.in-Some.found s.ScalarSubquery 1 expr.SubqueryMissing c.scalar.result
    c.in-Some.is c.in_ok-merged-in-1.ensures.bytes c.in_ok-merged-in-1.ensures.below c.message.ensures c.scalar.ensures)

pub returns-in-Some-2 : goal.returns-in-Some-2
returns-in-Some-2 g c = rw c.in-2.is (read_won c.args.won.now c.in_ok-merged-in-2.field-0 c.in-Some-2.found s.InPredicate 2 expr.SubqueryMissing c.in_predicate.result
    c.in-Some-2.is c.in_ok-merged-in-2.ensures.bytes c.in_ok-merged-in-2.ensures.below c.message-in-Some-2.ensures c.in_predicate.ensures)

pub returns-in-Some-3 : goal.returns-in-Some-3
returns-in-Some-3 g c = rw c.in-3.is (read_won c.args.won.now c.in_ok-merged-in-3.field-0 c.in-Some-3.found s.SetPredicate 3 expr.SubqueryMissing c.set_predicate.result
    c.in-Some-3.is c.in_ok-merged-in-3.ensures.bytes c.in_ok-merged-in-3.ensures.below c.message-in-Some-3.ensures c.set_predicate.ensures)
