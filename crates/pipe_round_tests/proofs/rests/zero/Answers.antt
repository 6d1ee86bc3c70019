use Rattle.std.proofs.Common.{rules, pos}
use Rattle.pipe_round_tests.proofs.RestLaws.{number_is}
use Rattle.pipe_round_tests.proofs.rests.zero.Goals as goal

pub returns : goal.returns
returns c = number_is (pos 0) (search rules)
