use Rattle.std.proofs.Common.{rules as given, ◌≡◌, ◌∙◌, sym, ap, subst, map, List, Option, Err, ℕ}
use Rattle.plan_verdict.specs.declared.groups.Group.{Group}
use Rattle.plan_verdict.specs.Checking.{Comes}
use Rattle.check_groups.specs.Capped.{capped_set_in}
use Rattle.plan_verdict.specs.Meaning.{Sets, Expression}
use Rattle.plan_verdict.specs.Rels.{over}
use Rattle.plan_verdict.specs.Verdict.{checked_expr, checked_grouping}
use Rattle.plan_verdict.proofs.FoldLaws.{checked_grouping-out}
use Rattle.check_groups.proofs.GroupLaws.{set_found, set_refused}
use Rattle.check_groups.proofs.groups.sets_in.Goals as goal

pub loop-grouping-preserved : goal.loop-grouping-preserved
loop-grouping-preserved g c =
    let terms = c.args.terms.now in
    let scope = over c.args.number c.args.columns.now in
    let grouping = c.grouping-item.result in
    let before = c.loop-grouping.progress in
    set_found scope (checked_grouping terms) c.args.groupings.now c.loop-grouping.grouping-index grouping c.loop-grouping.groups c.in_ok-more.more
    c.loop-grouping.sets c.push.new.self c.in_ok-more.one before c.in_ok-more.after _
    c.loop-grouping-test.true c.grouping-item.is
    (ap (λ (found : Sets). capped_set_in scope c.loop-grouping.groups found.expressions before) (checked_grouping-out terms grouping)
    ∙ ap (λ exprs. capped_set_in scope c.loop-grouping.groups (map (checked_expr terms) exprs) before) (sym c.as_slice-expressions.ensures) ∙ c.in_ok-more.ensures)
    c.in_ok-push.ensures.ok c.loop-grouping.invariant

pub returns-in_err-more : goal.returns-in_err-more
returns-in_err-more g c =
    let terms = c.args.terms.now in
    let scope = over c.args.number c.args.columns.now in
    let grouping = c.grouping-item.result in
    let error = c.in_err-more.field-0.0 in
    let same : map (checked_expr terms) c.as_slice-expressions.result.now ≡ (checked_grouping terms grouping).expressions =
    ap (map (checked_expr terms)) c.as_slice-expressions.ensures ∙ sym (ap (λ (found : Sets). found.expressions) (checked_grouping-out terms grouping)) in
    let refused =
    set_refused scope (checked_grouping terms) c.args.groupings.now c.loop-grouping.grouping-index grouping c.loop-grouping.groups c.loop-grouping.sets error c.loop-grouping.progress _
    c.loop-grouping-test.true c.grouping-item.is (subst (λ (expressions : List Expression). Comes {A = Option (List Group) × List ℕ} (Err error) (capped_set_in scope c.loop-grouping.groups expressions c.loop-grouping.progress)) same c.in_err-more.ensures) c.loop-grouping.invariant in
    search given
