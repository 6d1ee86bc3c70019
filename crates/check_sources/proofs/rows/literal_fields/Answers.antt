use Rattle.std.proofs.Common.{sym, subst, rules}
use Rattle.sub_types.specs.declared.kind.Ty.{Ty}
use Rattle.plan_leaves.specs.declared.literal.RawLiteral.{RawLiteral}
use Rattle.plan_typed.specs.declared.expr.Expr.{Expr}
use Rattle.plan_verdict.specs.Checking.{Checking, Comes, in_order}
use Rattle.plan_verdict.specs.Reads as spec
use Rattle.check_exprs.proofs.OrderLaws.{two_made}
use Rattle.check_sources.proofs.rows.literal_fields.Goals as goal

pub returns : goal.returns
returns c =
    let check : Checking Expr → Ty → Checking Expr = λ field ty. spec.of_kind (spec.no_columns c.args.number) ty field in
    let one : RawLiteral → Checking Expr = spec.literal_field c.args.number in
    subst (λ checks. Comes c.each_of_two.result (in_order checks c.args.progress)) (sym (two_made check one c.args.fields.now c.args.types.now))
    (c.each_of_two.ensures (λ field ty. check (one field) ty) (λ _ _ _ _ post. search rules))
