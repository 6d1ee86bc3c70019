use Rattle.steps_tests.proofs.CallLaws.{unknown_is}
use Rattle.steps_tests.proofs.calls.unknown.Goals as goal

pub returns : goal.returns
returns c = unknown_is
