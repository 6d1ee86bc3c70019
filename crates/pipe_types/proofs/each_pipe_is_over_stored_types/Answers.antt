use Rattle.pipe_types.proofs.StoredLaws.{pipe_over}
use Rattle.pipe_types.proofs.each_pipe_is_over_stored_types.Goals as goal

pub returns : goal.returns
returns c = pipe_over
