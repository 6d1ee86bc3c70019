use Rattle.std.proofs.Common.{sym, subst}
use Rattle.plan_typed.specs.declared.expr.Expr.{Expr}
use Rattle.plan_verdict.specs.Checking.{Checking, Comes}
use Rattle.plan_verdict.specs.Meaning.{Scope}
use Rattle.plan_verdict.specs.Rels.{over}
use Rattle.plan_verdict.proofs.FoldLaws.{checked_clause-out}
use Rattle.check_exprs.proofs.conditional.clause.Goals as goal

pub returns : goal.returns
returns g c = subst (λ (check : Scope → Checking (Expr × Expr)). Comes c.clause_of.result (check (over c.args.relation c.args.columns.now) c.args.progress)) (sym (checked_clause-out c.args.terms.now c.args.clause.now)) c.clause_of.ensures
