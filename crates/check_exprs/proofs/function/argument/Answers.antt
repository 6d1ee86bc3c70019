use Rattle.std.proofs.Common.{◌≡◌, ◌∙◌, sym, ap, subst, ⊎_elim, None}
use Rattle.plan_verdict.specs.declared.rule.Rule.TheVariants as rules
use Rattle.plan_verdict.specs.Checking.{Comes}
use Rattle.plan_verdict.specs.Exprs as spec
use Rattle.plan_verdict.specs.Rels.{over}
use Rattle.plan_verdict.specs.Verdict.{checked_argument}
use Rattle.plan_verdict.proofs.FoldLaws.{checked_argument-Value, checked_argument-Missing, checked_argument-Enum, checked_argument-TypeArgument}
use Rattle.check_exprs.proofs.LevelLaws.{refused_comes}
use Rattle.check_exprs.proofs.function.argument.Goals as goal

pub returns-in-Value : goal.returns-in-Value
returns-in-Value g c =
    subst (λ found. Comes c.expression.result (spec.argument (over c.args.relation c.args.columns.now) found c.args.progress))
    (sym (ap (checked_argument c.args.terms.now) c.in-Value.is ∙ checked_argument-Value c.args.terms.now c.in-Value.value)) c.expression.ensures

pub returns-in-Missing : goal.returns-in-Missing
returns-in-Missing g c =
    let terms = c.args.terms.now in
    let none : checked_argument terms c.args.written.now ≡ None =
    ⊎_elim (λ is. ap (checked_argument terms) is ∙ checked_argument-Missing terms)
    (⊎_elim (λ e. ap (checked_argument terms) e.1 ∙ checked_argument-Enum terms e.0) (λ e. ap (checked_argument terms) e.1 ∙ checked_argument-TypeArgument terms e.0)) c.in-Missing.is in
    refused_comes c.args.relation rules.UnsupportedForm c.refuse.result _ c.refuse.ensures (ap (λ found. spec.argument (over c.args.relation c.args.columns.now) found c.args.progress) none)
