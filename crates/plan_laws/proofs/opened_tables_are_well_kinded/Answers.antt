use Rattle.plan_laws.proofs.OpenedLaws.{all_well_kinded}
use Rattle.plan_laws.proofs.opened_tables_are_well_kinded.Goals as goal

pub returns : goal.returns
returns c = all_well_kinded
