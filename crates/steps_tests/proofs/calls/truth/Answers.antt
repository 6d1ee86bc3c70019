use Rattle.steps_tests.proofs.CallLaws.{truth_is}
use Rattle.steps_tests.proofs.calls.truth.Goals as goal

pub returns : goal.returns
returns c = truth_is c.args.truth
