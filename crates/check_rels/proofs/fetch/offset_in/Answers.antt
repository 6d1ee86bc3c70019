use Rattle.std.proofs.Common.{◌∙◌, sym, ap}
use Rattle.plan_verdict.specs.Amounts.{amount_of}
use Rattle.plan_verdict.specs.Verdict.{checked_expr}
use Rattle.plan_raw.specs.declared.expr.RawExpr.{RawExpr}
use Rattle.check_exprs.proofs.CheckedLaws.{offset_missing, offset_number, offset_expr}
use Rattle.check_rels.proofs.fetch.offset_in.Goals as goal

pub returns-in-Missing : goal.returns-in-Missing
returns-in-Missing c = sym (offset_missing c.args.terms.now c.args.offset.now c.in-Missing.is)

pub returns-in-Offset : goal.returns-in-Offset
returns-in-Offset c = c.some_number.ensures ∙ sym (offset_number c.args.terms.now c.args.offset.now c.in-Offset.rows c.in-Offset.is)

pub returns-in-OffsetExpr : goal.returns-in-OffsetExpr
returns-in-OffsetExpr c =
    c.amount_in.ensures
    ∙ ap (λ (expr : RawExpr). amount_of (checked_expr c.args.terms.now expr).literal) c.get.ensures
    ∙ sym (offset_expr c.args.terms.now c.args.offset.now c.in-OffsetExpr.expr c.in-OffsetExpr.is)
