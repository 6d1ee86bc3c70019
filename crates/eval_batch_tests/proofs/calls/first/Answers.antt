use Rattle.eval_batch_tests.proofs.CallLaws.{first_is}
use Rattle.eval_batch_tests.proofs.calls.first.Goals as goal

pub returns : goal.returns
returns c = first_is
