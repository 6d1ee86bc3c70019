use Rattle.plan_laws.proofs.PlanLaw.{law_of_tested_plans}
use Rattle.plan_laws.proofs.tested_tables_denote_plans_alike.Goals as goal

pub returns : goal.returns
returns c = law_of_tested_plans
