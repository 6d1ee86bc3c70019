use Rattle.group_tallies.proofs.GroupLaws.{groups_keep}
use Rattle.group_tallies.proofs.groups_keep_their_values.Goals as goal

pub returns : goal.returns
returns c = groups_keep
