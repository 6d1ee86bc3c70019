use Rattle.std.proofs.Common.{rules}
use Rattle.plan_typed.specs.declared.rel.SortKey.{SortKey}
use Rattle.plan_verdict.specs.Checking.{Checking}
use Rattle.plan_verdict.specs.Meaning.{Scope}
use Rattle.plan_verdict.specs.Rels.{over}
use Rattle.plan_verdict.specs.Verdict.{checked_sort}
use Rattle.check_exprs.proofs.OrderLaws.{each_made}
use Rattle.check_rels.proofs.sort.sort_keys.Goals as goal

pub returns : goal.returns
returns g c =
    let check = λ (key : Scope → Checking SortKey). key (over c.args.number c.args.columns.now) in
    let one = checked_sort c.args.terms.now in
    each_made check one c.args.sorts.now c.args.progress c.each_of.result (c.each_of.ensures (λ written. check (one written)) (λ _ _ _ post. search rules))
