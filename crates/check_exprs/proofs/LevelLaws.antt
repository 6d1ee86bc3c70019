-- A check by a member is the message's check.
use Rattle.std.proofs.Common.{◌≡◌, sym, subst, ℕ, Result, Ok, Err}
use Rattle.plan_raw.specs.declared.expr.RawExpr.{RawExpr, RawExpr-F}
use Rattle.plan_raw.specs.declared.rel.RawRel.{RawRel, RawRel-F}
use Rattle.plan_typed.specs.declared.expr.Expr.{Expr}
use Rattle.plan_typed.specs.declared.rel.Rel.{Rel}
use Rattle.plan_verdict.specs.declared.progress.Progress.{Progress}
use Rattle.plan_verdict.specs.declared.rule.CheckError.{CheckError}
use Rattle.plan_verdict.specs.declared.rule.CheckError.TheVariants as errors
use Rattle.plan_verdict.specs.declared.rule.Rule.{Rule}
use Rattle.plan_verdict.specs.Checking.{Checking, Refusal, Comes, go_on, next_node}
use Rattle.plan_verdict.specs.Exprs.{Terms, expression, member}
use Rattle.plan_verdict.specs.Meaning.{Scope, Expression, Checked}
use Rattle.plan_verdict.specs.Verdict.{checked_expr, checked_rel}
use Rattle.plan_verdict.specs.Verdict as verdict

-- a refusal is what the check gives
pub refused_comes : {A : Type 0} (relation : ℕ) (rule : Rule) (result : Result (A × Progress) CheckError) (checked : Result (A × Progress) Refusal)
    → result ≡ Err (errors.Refused relation rule) → checked ≡ Err (record { relation = relation; rule = rule }) → Comes result checked
refused_comes relation rule result checked is refused = subst (λ (r : Result _ CheckError). Comes r checked) (sym is) refused

-- an expression with the next number is checked by its member
pub member_comes : (terms : Terms) (expr : RawExpr) (level : Checked RawExpr-F) (scope : Scope) (node : ℕ) (before after : Progress) (result : Result (Expr × Progress) CheckError)
    → checked_expr terms expr ≡ expression terms level → next_node before ≡ Ok (node, after) → Comes result (member terms scope node level after) → Comes result ((checked_expr terms expr).check scope before)
member_comes terms expr level scope node before after result is next comes =
    subst (λ (found : Expression). Comes result (found.check scope before)) (sym is)
    (subst (λ (first : Result (ℕ × Progress) Refusal). Comes result (go_on first (λ n. member terms scope n level))) (sym next) comes)

-- a relation is checked by its member
pub relation_comes : (terms : Terms) (rel : RawRel) (level : Checked RawRel-F) (number : ℕ) (before : Progress) (result : Result (Rel × Progress) CheckError)
    → checked_rel terms rel ≡ verdict.member level → Comes result (verdict.member level number before) → Comes result (checked_rel terms rel number before)
relation_comes terms rel level number before result is comes = subst (λ (check : ℕ → Checking Rel). Comes result (check number before)) (sym is) comes
