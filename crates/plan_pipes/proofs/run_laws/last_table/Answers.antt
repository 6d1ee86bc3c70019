use Rattle.plan_pipes.proofs.RunLaws.{last_built}
use Rattle.plan_pipes.proofs.run_laws.last_table.Goals as goal

pub returns : goal.returns
returns g c = last_built
