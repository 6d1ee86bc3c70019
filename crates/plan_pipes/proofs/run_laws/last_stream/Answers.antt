use Rattle.plan_pipes.proofs.RunLaws.{last_gathered}
use Rattle.plan_pipes.proofs.run_laws.last_stream.Goals as goal

pub returns : goal.returns
returns g c = last_gathered
