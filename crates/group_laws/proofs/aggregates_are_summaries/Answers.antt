use Rattle.group_laws.proofs.PieceLaws.{aggregated_is, grouping_sets_is}
use Rattle.group_laws.proofs.aggregates_are_summaries.Goals as goal

pub returns : goal.returns
returns c = record { groups = aggregated_is; sets = grouping_sets_is }
