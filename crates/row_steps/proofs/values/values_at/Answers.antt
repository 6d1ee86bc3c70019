use Rattle.std.proofs.Common.{sym, subst, rules}
use Rattle.std.proofs.lemmas.Simd.{map-map}
use Rattle.plan_denote.specs.Eval.{eval}
use Rattle.plan_denote.specs.Rows.{collect}
use Rattle.row_steps.specs.Seen.{Comes}
use Rattle.row_steps.proofs.values.values_at.Goals as goal

pub returns : goal.returns
returns g c = subst (λ all. Comes c.collect_of.result (collect all)) (sym (map-map _ _ c.args.exprs.now)) (c.collect_of.ensures (λ expr. eval expr (g.R.RowValues.as_row c.args.row.now)) (λ _ _ post. search rules))
