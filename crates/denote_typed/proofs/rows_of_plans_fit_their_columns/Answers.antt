use Rattle.denote_typed.proofs.PlanLaw.{law_of_plans}
use Rattle.denote_typed.proofs.rows_of_plans_fit_their_columns.Goals as goal

pub returns : goal.returns
returns c = law_of_plans
