use Rattle.std.proofs.Common.{◌∙◌, sym, ap}
use Rattle.plan_verdict.specs.Amounts.{amount_of}
use Rattle.check_exprs.proofs.CheckedLaws.{literal_at, literal_of_other}
use Rattle.check_rels.proofs.fetch.amount_in.Goals as goal

pub returns-in_default : goal.returns-in_default
returns-in_default c = ap amount_of (sym (literal_of_other c.args.terms.now c.args.expr.now c.in_default.not-Literal))

pub returns-in-Literal : goal.returns-in-Literal
returns-in-Literal c = c.amount_of.ensures ∙ ap amount_of (sym (literal_at c.args.terms.now c.args.expr.now c.in-Literal.raw c.in-Literal.is))
