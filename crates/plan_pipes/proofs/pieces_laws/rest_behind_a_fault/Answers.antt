use Rattle.plan_pipes.proofs.ProbeLaws.{rest_ignored}
use Rattle.plan_pipes.proofs.pieces_laws.rest_behind_a_fault.Goals as goal

pub returns : goal.returns
returns c = rest_ignored
