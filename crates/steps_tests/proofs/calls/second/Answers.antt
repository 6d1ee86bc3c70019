use Rattle.steps_tests.proofs.CallLaws.{second_is}
use Rattle.steps_tests.proofs.calls.second.Goals as goal

pub returns : goal.returns
returns c = second_is
