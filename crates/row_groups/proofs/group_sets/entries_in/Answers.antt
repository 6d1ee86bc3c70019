use Rattle.std.proofs.Common.{rules}
use Rattle.plan_denote.specs.GroupSets.{entry_in}
use Rattle.row_groups.proofs.group_sets.entries_in.Goals as goal

pub returns : goal.returns
returns c = c.map_of.ensures (entry_in c.args.set.now) (λ _ _ post. search rules)
