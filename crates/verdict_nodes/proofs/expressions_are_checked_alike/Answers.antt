use Rattle.verdict_nodes.proofs.PlanLevelLaws.{every_expr_alike}
use Rattle.verdict_nodes.proofs.expressions_are_checked_alike.Goals as goal

pub returns : goal.returns
returns c = every_expr_alike
