use Rattle.group_laws.proofs.SetLaws.{sets_summary-append}
use Rattle.group_laws.proofs.summaries_of_sets_merge.Goals as goal

pub returns : goal.returns
returns c = sets_summary-append
