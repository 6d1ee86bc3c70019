use Rattle.std.proofs.Common.{rules}
use Rattle.plan_denote.specs.Eval.{eval}
use Rattle.plan_denote.specs.Filter.{filtered, filter_row}
use Rattle.row_steps.proofs.filter.filtered.Goals as goal

pub returns : goal.returns
unfolding filtered
returns c = c.each_row.ensures (filter_row (eval c.args.condition.now)) (λ _ _ post. search rules)
