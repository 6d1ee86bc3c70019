use Rattle.group_laws.proofs.SetLaws.{known_of-append}
use Rattle.group_laws.proofs.kept_values_merge.Goals as goal

pub returns : goal.returns
returns c = known_of-append
