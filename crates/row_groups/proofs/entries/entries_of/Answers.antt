use Rattle.std.proofs.Common.{map, rules}
use Rattle.plan_denote.specs.Aggregate.{entry_of}
use Rattle.plan_denote.specs.Eval.{eval}
use Rattle.row_groups.proofs.entries.entries_of.Goals as goal

pub returns : goal.returns
returns g c = c.each_row.ensures (entry_of (map eval c.args.groups.now) (map (λ one. (g.M.AnyMeasure.as_any one).measure) c.args.measures.now)) (λ _ _ post. search rules)
