use Rattle.std.proofs.Common.{◌≡◌, ◌∙◌, rules as given, sym, ap, subst, map, List, length, Ok, Err, ℕ}
use Rattle.plan_verdict.specs.Aggregates.{sets_of_places}
use Rattle.plan_verdict.specs.Checking.{Agrees}
use Rattle.plan_verdict.specs.Meaning.{Sets}
use Rattle.plan_verdict.specs.Rels.{over}
use Rattle.plan_verdict.specs.Verdict.{checked_expr, checked_grouping}
use Rattle.check_exprs.proofs.CheckedLaws.{grouping_references}
use Rattle.check_groups.proofs.GroupLaws.{referred_accepted, referred_refused}
use Rattle.check_groups.proofs.groups.referred.Goals as goal

pub returns-in_err-sets : goal.returns-in_err-sets
returns-in_err-sets g c =
    let terms = c.args.terms.now in
    let groups = c.in_ok-groups.groups in
    let same : c.in_ok-references.references ≡ map (λ (one : Sets). one.references) (map (checked_grouping terms) c.args.groupings.now) =
    c.in_ok-references.ensures ∙ sym (grouping_references terms c.args.groupings.now) in
    let second : Agrees {A = List (List ℕ)} (Err c.in_err-sets.field-0.0) c.args.number (sets_of_places (length groups) c.in_ok-references.references) = search given in
    let refused =
    referred_refused (over c.args.number c.args.columns.now) (map (checked_expr terms) c.args.expressions.now) (map (checked_grouping terms) c.args.groupings.now) groups c.in_err-sets.field-0.0 c.args.progress c.in_ok-groups.progress
    c.in_ok-groups.ensures (subst (λ references. Agrees {A = List (List ℕ)} (Err c.in_err-sets.field-0.0) c.args.number (sets_of_places (length groups) references)) same second) in
    search given

pub returns : goal.returns
returns g c =
    let terms = c.args.terms.now in
    let groups = c.in_ok-groups.groups in
    let same : c.in_ok-references.references ≡ map (λ (one : Sets). one.references) (map (checked_grouping terms) c.args.groupings.now) =
    c.in_ok-references.ensures ∙ sym (grouping_references terms c.args.groupings.now) in
    let second : sets_of_places (length groups) c.in_ok-references.references ≡ Ok c.in_ok-sets.sets = search given in
    referred_accepted (over c.args.number c.args.columns.now) (map (checked_expr terms) c.args.expressions.now) (map (checked_grouping terms) c.args.groupings.now) groups c.in_ok-sets.sets c.args.progress c.in_ok-groups.progress
    c.in_ok-groups.ensures (ap (sets_of_places (length groups)) (sym same) ∙ second)
