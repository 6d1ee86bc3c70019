use Rattle.demo_laws.proofs.AcceptedLaws.{accepted}
use Rattle.demo_laws.proofs.plan.demo_plan_is_accepted.Goals as goal

pub returns : goal.returns
returns c = accepted
