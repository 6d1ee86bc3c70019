use Rattle.plan_laws.proofs.OpenedLaws.{all_tested}
use Rattle.plan_laws.proofs.opened_tables_are_tested.Goals as goal

pub returns : goal.returns
returns c = all_tested
