use Rattle.std.proofs.Common.{rules}
use Rattle.plan_verdict.specs.Exprs as spec
use Rattle.plan_verdict.specs.Rels.{over}
use Rattle.plan_verdict.specs.Verdict.{checked_argument}
use Rattle.check_exprs.proofs.OrderLaws.{each_made}
use Rattle.check_exprs.proofs.function.arguments.Goals as goal

pub returns : goal.returns
returns g c =
    let check = spec.argument (over c.args.relation c.args.columns.now) in
    let one = checked_argument c.args.terms.now in
    each_made check one c.args.written.now c.args.progress c.each_of.result (c.each_of.ensures (λ written. check (one written)) (λ _ _ _ post. search rules))
