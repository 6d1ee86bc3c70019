use Rattle.std.proofs.Common.{rules, pos}
use Rattle.aggregate_tests.proofs.TypedLaws.{number_is}
use Rattle.aggregate_tests.proofs.calls.two.Goals as goal

pub returns : goal.returns
returns c = number_is (pos 2) (search rules)
