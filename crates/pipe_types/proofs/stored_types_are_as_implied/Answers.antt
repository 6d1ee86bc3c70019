use Rattle.pipe_types.proofs.StoredLaws.{stream_implied}
use Rattle.pipe_types.proofs.stored_types_are_as_implied.Goals as goal

pub returns : goal.returns
returns c = stream_implied
