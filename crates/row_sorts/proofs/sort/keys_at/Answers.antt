use Rattle.std.proofs.Common.{sym, subst, rules}
use Rattle.std.proofs.lemmas.Simd.{map-map}
use Rattle.plan_typed.specs.declared.rel.SortKey.{SortKey}
use Rattle.plan_denote.specs.Eval.{eval}
use Rattle.plan_denote.specs.Rows.{Formula, collect}
use Rattle.row_steps.specs.Seen.{Comes}
use Rattle.row_sorts.proofs.sort.keys_at.Goals as goal

pub returns : goal.returns
returns c =
    let formula : SortKey → Formula = λ key. eval key.expr in
    subst (λ all. Comes c.collect_of.result (collect all)) (sym (map-map _ _ c.args.keys.now))
    (c.collect_of.ensures (λ key. eval key.expr c.args.row.now) (λ _ _ post. search rules))
