use Rattle.plan_verdict.specs.Rels.{over}
use Rattle.plan_verdict.specs.Verdict.{checked_expr}
use Rattle.check_groups.proofs.GroupLaws.{place_found}
use Rattle.check_groups.proofs.groups.set_in.Goals as goal

pub loop-written-preserved : goal.loop-written-preserved
loop-written-preserved g c =
    place_found (over c.args.number c.args.columns.now) (checked_expr c.args.terms.now) c.args.expressions.now c.loop-written.written-index c.written-item.result c.loop-written.groups c.in_ok-more.more
    c.loop-written.places c.push.new.self c.in_ok-more.one c.loop-written.progress c.in_ok-more.after _
    c.loop-written-test.true c.written-item.is c.in_ok-more.ensures c.in_ok-push.ensures.ok c.loop-written.invariant
