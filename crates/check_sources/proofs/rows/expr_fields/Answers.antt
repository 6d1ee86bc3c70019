use Rattle.std.proofs.Common.{sym, subst, rules}
use Rattle.sub_types.specs.declared.kind.Ty.{Ty}
use Rattle.plan_typed.specs.declared.expr.Expr.{Expr}
use Rattle.plan_raw.specs.declared.expr.RawExpr.{RawExpr}
use Rattle.plan_verdict.specs.Checking.{Checking, Comes, in_order}
use Rattle.plan_verdict.specs.Reads as spec
use Rattle.plan_verdict.specs.Verdict.{checked_expr}
use Rattle.check_exprs.proofs.OrderLaws.{two_made}
use Rattle.check_sources.proofs.rows.expr_fields.Goals as goal

pub returns : goal.returns
returns g c =
    let scope = spec.no_columns c.args.number in
    let check : Checking Expr → Ty → Checking Expr = λ field ty. spec.of_kind scope ty field in
    let one : RawExpr → Checking Expr = λ field. (checked_expr c.args.terms.now field).check scope in
    subst (λ checks. Comes c.each_of_two.result (in_order checks c.args.progress)) (sym (two_made check one c.args.fields.now c.args.types.now))
    (c.each_of_two.ensures (λ field ty. check (one field) ty) (λ _ _ _ _ post. search rules))
