use Rattle.verdict_awaits.proofs.Law.{law_of_verdicts}
use Rattle.verdict_awaits.proofs.holes_are_awaited.Goals as goal

pub returns : goal.returns
returns c = law_of_verdicts
