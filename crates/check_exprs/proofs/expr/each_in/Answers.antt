use Rattle.std.proofs.Common.{rules}
use Rattle.plan_verdict.specs.Meaning.{Expression}
use Rattle.plan_verdict.specs.Rels.{over}
use Rattle.plan_verdict.specs.Verdict.{checked_expr}
use Rattle.check_exprs.proofs.OrderLaws.{each_made}
use Rattle.check_exprs.proofs.expr.each_in.Goals as goal

pub returns : goal.returns
returns g c =
    let check = λ (e : Expression). e.check (over c.args.relation c.args.columns.now) in
    let one = checked_expr c.args.terms.now in
    each_made check one c.args.exprs.now c.args.progress c.each_of.result (c.each_of.ensures (λ expr. check (one expr)) (λ _ _ _ post. search rules))
