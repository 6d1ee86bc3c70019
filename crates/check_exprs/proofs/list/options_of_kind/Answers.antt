use Rattle.std.proofs.Common.{rules}
use Rattle.plan_verdict.specs.Exprs as spec
use Rattle.plan_verdict.specs.Rels.{over}
use Rattle.plan_verdict.specs.Verdict.{checked_expr}
use Rattle.check_exprs.proofs.OrderLaws.{each_made}
use Rattle.check_exprs.proofs.list.options_of_kind.Goals as goal

pub returns : goal.returns
returns g c =
    let check = spec.option_of_kind (over c.args.relation c.args.columns.now) c.args.kind in
    let one = checked_expr c.args.terms.now in
    each_made check one c.args.options.now c.args.progress c.each_of.result (c.each_of.ensures (λ option. check (one option)) (λ _ _ _ post. search rules))
