use Rattle.verdict_nodes.proofs.PlanLevelLaws.{every_measure_alike}
use Rattle.verdict_nodes.proofs.measures_are_checked_alike.Goals as goal

pub returns : goal.returns
returns c = every_measure_alike
