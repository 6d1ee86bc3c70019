use Rattle.std.proofs.Common.{◌∙◌, sym, ap}
use Rattle.plan_verdict.specs.Amounts.{amount_of}
use Rattle.plan_verdict.specs.Verdict.{checked_expr}
use Rattle.plan_raw.specs.declared.expr.RawExpr.{RawExpr}
use Rattle.check_exprs.proofs.CheckedLaws.{count_missing, count_number, count_expr}
use Rattle.check_rels.proofs.fetch.count_in.Goals as goal

pub returns-in-Missing : goal.returns-in-Missing
returns-in-Missing c = sym (count_missing c.args.terms.now c.args.count.now c.in-Missing.is)

pub returns-in-Count : goal.returns-in-Count
returns-in-Count c = c.some_number.ensures ∙ sym (count_number c.args.terms.now c.args.count.now c.in-Count.rows c.in-Count.is)

pub returns-in-CountExpr : goal.returns-in-CountExpr
returns-in-CountExpr c =
    c.amount_in.ensures
    ∙ ap (λ (expr : RawExpr). amount_of (checked_expr c.args.terms.now expr).literal) c.get.ensures
    ∙ sym (count_expr c.args.terms.now c.args.count.now c.in-CountExpr.expr c.in-CountExpr.is)
