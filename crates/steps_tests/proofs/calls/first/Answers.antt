use Rattle.steps_tests.proofs.CallLaws.{first_is}
use Rattle.steps_tests.proofs.calls.first.Goals as goal

pub returns : goal.returns
returns c = first_is
