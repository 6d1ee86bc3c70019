use Rattle.std.proofs.Common.{subst}
use Rattle.std.specs.Option.{option_map}
use Rattle.plan_typed.specs.declared.expr.Expr.{Expr}
use Rattle.plan_verdict.specs.Checking.{Comes}
use Rattle.plan_verdict.specs.Rels.{over}
use Rattle.plan_verdict.specs.Verdict.{checked_expr, checked_rel}
use Rattle.check_exprs.specs.Column.{in_column}
use Rattle.check_exprs.proofs.StepLaws.{came, in_finished}
use Rattle.check_exprs.proofs.subquery.in_relation.Goals as goal

pub returns : goal.returns
returns g c =
    let terms = c.args.terms.now in
    let rel = c.in_ok-value-2.rel in
    let after = c.in_ok-value-2.progress in
    in_finished (over c.args.relation c.args.columns.now) c.args.progress c.in_ok-value.progress after after c.args.node (checked_expr terms c.args.needle.now) (option_map (checked_rel terms) c.args.haystack.now)
    c.in_ok-value.value rel _ c.in_ok-value.ensures (came c.input-rel.result (rel, after) _ c.in_ok-value-2.ensures.found c.input-rel.ensures)
    (subst (λ (value : Expr). Comes c.in_column.result (in_column c.args.relation c.args.node value rel after)) c.in_ok-value-2.ensures.value c.in_column.ensures)
