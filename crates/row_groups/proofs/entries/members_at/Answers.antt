use Rattle.std.proofs.Common.{sym, subst, rules}
use Rattle.std.proofs.lemmas.Simd.{map-map}
use Rattle.plan_denote.specs.Aggregate.{member_at}
use Rattle.plan_denote.specs.Rows.{collect}
use Rattle.row_steps.specs.Seen.{Comes}
use Rattle.row_groups.proofs.entries.members_at.Goals as goal

pub returns : goal.returns
returns g c =
    subst (λ all. Comes c.collect_of.result (collect all)) (sym (map-map _ _ c.args.measures.now))
    (c.collect_of.ensures (λ one. member_at c.args.row.now (g.M.AnyMeasure.as_any one).measure) (λ _ _ post. search rules))
