use Rattle.std.proofs.Common.{◌≡◌, ◌∙◌, ap, sym, rules as given, true, not, map}
use Rattle.std.specs.Option.{option_map}
use Rattle.sub_types.specs.declared.kind.Kind.{Kind}
use Rattle.plan_verdict.specs.Exprs.{otherwise}
use Rattle.plan_verdict.specs.Lists.{is_empty}
use Rattle.plan_verdict.specs.Rels.{over}
use Rattle.plan_verdict.specs.Verdict.{checked_clause, checked_expr}
use Rattle.check_exprs.specs.Arms.{if_of}
use Rattle.check_exprs.proofs.StepLaws.{some_made, if_then_finished}
use Rattle.check_exprs.proofs.conditional.if_then.Goals as goal

pub returns : goal.returns
returns g c =
    let scope = over c.args.relation c.args.columns.now in
    let checked = checked_clause c.args.terms.now in
    let otherwise_arm = option_map (checked_expr c.args.terms.now) c.args.else_.now in
    let arms = c.in_ok-arms.arms in
    let other = c.in_ok-other.other in
    let written : not (is_empty c.args.ifs.now) ≡ true = search given in
    if_then_finished scope c.args.progress c.in_ok-arms.progress c.in_ok-other.progress c.in_ok-other.progress (map checked c.args.ifs.now) otherwise_arm arms other _
    (some_made checked c.args.ifs.now written) c.in_ok-arms.ensures (ap (λ (kind : Kind). otherwise scope kind otherwise_arm c.in_ok-arms.progress) (sym c.values_kind-kind.ensures) ∙ c.in_ok-other.ensures)
    (c.part.ensures c.args.relation (if_of arms other) c.if_of.ensures)
