use Rattle.std.proofs.Common.{◌≡◌, ◌∙◌, ap, ◌++◌, ◌∷◌, []}
use Rattle.plan_typed.specs.declared.expr.Expr.TheVariants as exprs
use Rattle.plan_rules.proofs.HeldLaws.{if_found}
use Rattle.plan_verdict.specs.Exprs.{type_among}
use Rattle.check_exprs.specs.Arms.{values_of}
use Rattle.check_exprs.proofs.conditional.if_among.Goals as goal

pub returns : goal.returns
returns c =
    let arms = c.args.arms in
    let other = c.args.other in
    let same : c.in_ok-arms.other ≡ other = if_found (λ boxed. boxed ≡ other) c.new.result _ c.in_ok-arms.ensures.found c.new.ensures in
    ap (λ front. exprs.If front c.in_ok-arms.other c.arms_type-ty.result) c.in_ok-arms.ensures.value
    ∙ ap (λ last. exprs.If arms last c.arms_type-ty.result) same
    ∙ ap (exprs.If arms other) (c.arms_type-ty.ensures ∙ ap (λ all. type_among (values_of all ++ other ∷ [])) c.as_slice.ensures)
