use Rattle.group_laws.proofs.TallyLaws.{tally-append}
use Rattle.group_laws.proofs.tallies_merge.Goals as goal

pub returns : goal.returns
returns c = tally-append
