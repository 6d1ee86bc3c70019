use Rattle.std.proofs.Common.{◌≡◌, ◌∙◌, ap, sym, subst, rules as given, true, not, map, ◌&&◌, is_some}
use Rattle.std.specs.Option.{option_map}
use Rattle.sub_types.specs.declared.kind.Kind.{Kind}
use Rattle.plan_typed.specs.declared.expr.Expr.{Expr}
use Rattle.plan_verdict.specs.Checking.{Comes, part}
use Rattle.plan_verdict.specs.Lists.{is_empty}
use Rattle.plan_verdict.specs.Rels.{over}
use Rattle.plan_verdict.specs.Verdict.{checked_arm, checked_expr}
use Rattle.check_exprs.specs.Arms.{switch_arms, switch_of}
use Rattle.check_exprs.proofs.StepLaws.{came, parts_made, switch_finished}
use Rattle.check_exprs.proofs.switch.switch.Goals as goal

pub returns : goal.returns
returns g c =
    let scope = over c.args.relation c.args.columns.now in
    let arm = checked_arm c.args.terms.now in
    let expr = checked_expr c.args.terms.now in
    let ifs = map arm c.args.ifs.now in
    let other_arm = option_map expr c.args.else_.now in
    let subject = c.in_ok-subject.subject in
    let before = c.in_ok-subject.progress in
    let literals = c.in_ok-subject-2.literals in
    let values = c.in_ok-subject-2.values in
    let other = c.in_ok-subject-2.other in
    let after = c.in_ok-subject-2.progress in
    let parts : (is_some c.args.match_.now && not (is_empty c.args.ifs.now)) ≡ true = search given in
    let found = came c.switch_arms-found.result ((literals, values, other), after) (switch_arms scope c.kind_of-kind.result ifs other_arm before) c.in_ok-subject-2.ensures.found c.switch_arms-found.ensures in
    switch_finished scope c.args.progress before after after ifs other_arm (option_map expr c.args.match_.now) subject other literals values _
    (parts_made expr arm c.args.match_.now c.args.ifs.now parts) c.in_ok-subject.ensures
    (ap (λ (kind : Kind). switch_arms scope kind ifs other_arm before) (sym c.kind_of-kind.ensures) ∙ found)
    (subst (λ (one : Expr). Comes c.part.result (part c.args.relation (switch_of one literals values other) after)) c.in_ok-subject-2.ensures.value
    (c.part.ensures c.args.relation (switch_of c.in_ok-subject-2.subject literals values other) c.switch_of.ensures))
