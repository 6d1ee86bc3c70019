use Rattle.std.proofs.Common.{◌∙◌, List, sym, ap, subst, map}
use Rattle.std.proofs.lemmas.Simd.{map-map}
use Rattle.plan_raw.specs.declared.expr.RawExpr.{RawExpr}
use Rattle.plan_raw.specs.declared.source.ExprRow.{out-ExprRow}
use Rattle.plan_typed.specs.declared.expr.Expr.{Expr}
use Rattle.plan_verdict.specs.Checking.{Checking, Comes}
use Rattle.plan_verdict.specs.Meaning.{Expression}
use Rattle.plan_verdict.specs.Reads as spec
use Rattle.plan_verdict.specs.Verdict.{checked_expr}
use Rattle.plan_verdict.proofs.FoldLaws.{checked_row-out}
use Rattle.check_sources.proofs.rows.expr_row.Goals as goal

pub returns : goal.returns
returns g c =
    let check : Expression → Checking Expr = λ field. field.check (spec.no_columns c.args.number) in
    subst (λ (fields : List (Checking Expr)). Comes c.row_of.result (spec.row_in c.args.number c.args.types.now fields c.args.progress))
    (sym (ap (map check) (checked_row-out c.args.terms.now c.args.row.now) ∙ map-map check (checked_expr c.args.terms.now) (out-ExprRow c.args.row.now).fields))
    (subst (λ (fields : List RawExpr). Comes c.row_of.result (spec.row_in c.args.number c.args.types.now (map (λ field. check (checked_expr c.args.terms.now field)) fields) c.args.progress)) c.as_slice.ensures c.row_of.ensures)
