use Rattle.agree_laws.proofs.JointLaws.{read_once}
use Rattle.agree_laws.proofs.plans_read_once.Goals as goal

pub returns : goal.returns
returns c = read_once
