use Rattle.cut_laws.proofs.TypeLaws.{stream_of}
use Rattle.cut_laws.proofs.stream_of_each_pipe.Goals as goal

pub returns : goal.returns
returns g c = stream_of
