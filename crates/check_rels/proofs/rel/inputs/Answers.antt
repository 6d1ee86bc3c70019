use Rattle.std.proofs.Common.{rules}
use Rattle.plan_verdict.specs.Relation.{numbered}
use Rattle.plan_verdict.specs.Verdict.{checked_rel}
use Rattle.check_exprs.proofs.OrderLaws.{each_made}
use Rattle.check_rels.proofs.rel.inputs.Goals as goal

pub returns : goal.returns
returns g c =
    let check = numbered in
    let one = checked_rel c.args.terms.now in
    each_made check one c.args.written.now c.args.progress c.each_of.result (c.each_of.ensures (λ rel. check (one rel)) (λ _ _ _ post. search rules))
