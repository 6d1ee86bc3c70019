use Rattle.group_laws.proofs.SummaryLaws.{summary-append}
use Rattle.group_laws.proofs.summaries_merge.Goals as goal

pub returns : goal.returns
returns c = summary-append
