use Rattle.std.proofs.Common.{◌≡◌, subst, true}
use Rattle.plan_typed.specs.declared.expr.Expr.{Expr}
use Rattle.plan_verdict.specs.Same.{same_expr}
use Rattle.plan_rules.proofs.EqualLaws.{is_told}
use Rattle.plan_rules.proofs.laws.equal_exprs_are_equal.Goals as goal

pub returns : goal.returns
returns c = λ a b. ((is_told a).0 b, λ same. subst (λ (other : Expr). same_expr a other ≡ true) same (is_told a).1)
