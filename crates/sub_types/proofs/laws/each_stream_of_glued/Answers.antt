use Rattle.sub_types.proofs.StreamLaws.{each_stream-glue}
use Rattle.sub_types.proofs.laws.each_stream_of_glued.Goals as goal

pub returns : goal.returns
returns g c = each_stream-glue
