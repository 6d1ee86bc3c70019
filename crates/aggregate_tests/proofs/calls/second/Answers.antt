use Rattle.aggregate_tests.proofs.TypedLaws.{second_is}
use Rattle.aggregate_tests.proofs.calls.second.Goals as goal

pub returns : goal.returns
returns c = second_is
