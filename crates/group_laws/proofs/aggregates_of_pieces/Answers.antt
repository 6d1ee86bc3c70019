use Rattle.group_laws.proofs.PieceLaws.{aggregated_of_pieces, grouping_sets_of_pieces}
use Rattle.group_laws.proofs.aggregates_of_pieces.Goals as goal

pub returns : goal.returns
returns c = record { groups = aggregated_of_pieces; sets = grouping_sets_of_pieces }
