use Rattle.group_laws.proofs.TallyLaws.{merged_assoc}
use Rattle.group_laws.proofs.tallies_merge_in_any_bracketing.Goals as goal

pub returns : goal.returns
returns c = merged_assoc
