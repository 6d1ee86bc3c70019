use Rattle.demo_laws.proofs.SpelledLaws.{plan_is_short}
use Rattle.demo_laws.proofs.plan.demo_plan_is_short.Goals as goal

pub returns : goal.returns
returns c = plan_is_short
