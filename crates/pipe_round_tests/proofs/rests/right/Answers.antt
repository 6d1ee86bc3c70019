use Rattle.pipe_round_tests.proofs.RestLaws.{right_is}
use Rattle.pipe_round_tests.proofs.rests.right.Goals as goal

pub returns : goal.returns
returns c = right_is
