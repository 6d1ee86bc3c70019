use Rattle.std.proofs.Common.{map, subst}
use Rattle.plan_verdict.specs.Checking.{Comes}
use Rattle.plan_verdict.specs.Verdict.{checked_expr}
use Rattle.check_groups.proofs.CapLaws.{capped_is_whole}
use Rattle.check_groups.proofs.aggregates.aggregate_over.Goals as goal

pub returns : goal.returns
returns g c =
    subst (Comes c.capped_over.result)
    (capped_is_whole c.args.terms.now c.args.number c.args.common.now c.args.rel c.args.groupings.now c.args.measures.now (map (checked_expr c.args.terms.now) c.args.expressions.now) c.args.progress) c.capped_over.ensures
