use Rattle.pipe_round_tests.proofs.RestLaws.{left_is}
use Rattle.pipe_round_tests.proofs.rests.left.Goals as goal

pub returns : goal.returns
returns c = left_is
