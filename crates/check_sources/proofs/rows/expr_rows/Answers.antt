use Rattle.std.proofs.Common.{rules}
use Rattle.plan_verdict.specs.Reads as spec
use Rattle.plan_verdict.specs.Verdict.{checked_row}
use Rattle.check_exprs.proofs.OrderLaws.{each_made}
use Rattle.check_sources.proofs.rows.expr_rows.Goals as goal

pub returns : goal.returns
returns g c =
    let check = spec.expr_row c.args.number c.args.types.now in
    let one = checked_row c.args.terms.now in
    each_made check one c.args.rows.now c.args.progress c.each_of.result (c.each_of.ensures (λ row. check (one row)) (λ _ _ _ post. search rules))
