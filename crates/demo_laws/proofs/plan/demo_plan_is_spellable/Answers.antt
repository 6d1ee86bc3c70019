use Rattle.demo_laws.proofs.FittingLaws.{plan_is_spellable}
use Rattle.demo_laws.proofs.plan.demo_plan_is_spellable.Goals as goal

pub returns : goal.returns
returns c = plan_is_spellable
