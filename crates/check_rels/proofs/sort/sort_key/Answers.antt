use Rattle.std.proofs.Common.{sym, subst}
use Rattle.plan_typed.specs.declared.rel.SortKey.{SortKey}
use Rattle.plan_verdict.specs.Checking.{Checking, Comes}
use Rattle.plan_verdict.specs.Meaning.{Scope}
use Rattle.plan_verdict.specs.Rels.{over}
use Rattle.plan_verdict.proofs.FoldLaws.{checked_sort-out}
use Rattle.check_rels.proofs.sort.sort_key.Goals as goal

pub returns : goal.returns
returns g c = subst (λ (check : Scope → Checking SortKey). Comes c.key_by.result (check (over c.args.number c.args.columns.now) c.args.progress)) (sym (checked_sort-out c.args.terms.now c.args.sort.now)) c.key_by.ensures
