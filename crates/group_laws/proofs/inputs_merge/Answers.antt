use Rattle.group_laws.proofs.PieceLaws.{known-followed_by, sets-followed_by}
use Rattle.group_laws.proofs.inputs_merge.Goals as goal

pub returns : goal.returns
returns c = record { groups = known-followed_by; sets = sets-followed_by }
