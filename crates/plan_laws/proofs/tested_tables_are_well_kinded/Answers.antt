use Rattle.plan_laws.proofs.FitLaws.{law_of_fitting}
use Rattle.plan_laws.proofs.tested_tables_are_well_kinded.Goals as goal

pub returns : goal.returns
returns c = law_of_fitting
