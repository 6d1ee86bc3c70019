use Rattle.plan_pipes.proofs.RunLaws.{table_stays}
use Rattle.plan_pipes.proofs.run_laws.earlier_tables_stay.Goals as goal

pub returns : goal.returns
returns g c = table_stays
