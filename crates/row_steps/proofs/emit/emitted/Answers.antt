use Rattle.std.proofs.Common.{rules as given}
use Rattle.std.proofs.Common.{rules}
use Rattle.plan_denote.specs.Project.{emitted, columns_at}
use Rattle.row_steps.proofs.emit.emitted.Goals as goal

pub returns : goal.returns
unfolding emitted
returns c = let is = c.map_of.ensures (columns_at c.args.columns.now) (λ _ _ post. search rules) in search given
