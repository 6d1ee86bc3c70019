use Rattle.std.proofs.Common.{rules, pos}
use Rattle.hash_join_tests.proofs.TypedLaws.{number_is}
use Rattle.hash_join_tests.proofs.calls.zero.Goals as goal

pub returns : goal.returns
returns c = number_is (pos 0) (search rules)
