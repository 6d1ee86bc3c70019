use Rattle.std.proofs.Common.{◌≡◌, ◌∙◌, sym, ap, subst, map, List, Err}
use Rattle.plan_verdict.specs.Checking.{Comes}
use Rattle.plan_verdict.specs.Exprs.{each_in}
use Rattle.plan_verdict.specs.Meaning.{Sets, Expression}
use Rattle.plan_verdict.specs.Rels.{over}
use Rattle.plan_verdict.specs.Verdict.{checked_expr, checked_grouping}
use Rattle.plan_verdict.proofs.FoldLaws.{checked_grouping-out}
use Rattle.std.proofs.Common.{rules as given}
use Rattle.check_groups.proofs.GroupLaws.{one_accepted, one_refused}
use Rattle.check_groups.proofs.groups.one_written_out.Goals as goal

pub returns-in_err-groups : goal.returns-in_err-groups
returns-in_err-groups g c =
    let terms = c.args.terms.now in
    let scope = over c.args.number c.args.columns.now in
    let same : map (checked_expr terms) c.as_slice-expressions.result.now ≡ (checked_grouping terms c.args.one.now).expressions =
    ap (map (checked_expr terms)) c.as_slice-expressions.ensures ∙ sym (ap (λ (found : Sets). found.expressions) (checked_grouping-out terms c.args.one.now)) in
    let refused =
    one_refused scope (checked_grouping terms c.args.one.now) c.in_err-groups.field-0.0 c.args.progress
    (subst (λ (expressions : List Expression). Comes {A = List _} (Err c.in_err-groups.field-0.0) (each_in scope expressions c.args.progress)) same c.in_err-groups.ensures) in
    search given

pub returns : goal.returns
returns g c =
    let terms = c.args.terms.now in
    let scope = over c.args.number c.args.columns.now in
    let same : map (checked_expr terms) c.as_slice-expressions.result.now ≡ (checked_grouping terms c.args.one.now).expressions =
    ap (map (checked_expr terms)) c.as_slice-expressions.ensures ∙ sym (ap (λ (found : Sets). found.expressions) (checked_grouping-out terms c.args.one.now)) in
    let accepted = one_accepted scope (checked_grouping terms c.args.one.now) c.in_ok-groups.groups c.args.progress c.in_ok-groups.progress
    (ap (λ expressions. each_in scope expressions c.args.progress) (sym same) ∙ c.in_ok-groups.ensures) in
    search given
