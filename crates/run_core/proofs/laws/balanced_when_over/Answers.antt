use Rattle.run_core.proofs.Runs.{over_balanced}
use Rattle.run_core.proofs.laws.balanced_when_over.Goals as goal

pub returns : goal.returns
returns c = over_balanced
