use Rattle.aggregate_tests.proofs.TypedLaws.{first_is}
use Rattle.aggregate_tests.proofs.calls.first.Goals as goal

pub returns : goal.returns
returns c = first_is
