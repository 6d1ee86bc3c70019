use Rattle.plan_pipes.proofs.RunLaws.{length-streams, stream_stays}
use Rattle.plan_pipes.proofs.run_laws.earlier_streams_stay.Goals as goal

pub returns : goal.returns
returns g c = record { one_each = length-streams; stays = stream_stays }
