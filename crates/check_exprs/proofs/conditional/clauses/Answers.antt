use Rattle.std.proofs.Common.{rules}
use Rattle.plan_typed.specs.declared.expr.Expr.{Expr}
use Rattle.plan_verdict.specs.Checking.{Checking}
use Rattle.plan_verdict.specs.Meaning.{Scope}
use Rattle.plan_verdict.specs.Rels.{over}
use Rattle.plan_verdict.specs.Verdict.{checked_clause}
use Rattle.check_exprs.proofs.OrderLaws.{each_made}
use Rattle.check_exprs.proofs.conditional.clauses.Goals as goal

pub returns : goal.returns
returns g c =
    let check = λ (clause : Scope → Checking (Expr × Expr)). clause (over c.args.relation c.args.columns.now) in
    let one = checked_clause c.args.terms.now in
    each_made check one c.args.ifs.now c.args.progress c.each_of.result (c.each_of.ensures (λ written. check (one written)) (λ _ _ _ post. search rules))
