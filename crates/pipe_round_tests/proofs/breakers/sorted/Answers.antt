use Rattle.std.proofs.Common.{refl}
use Rattle.pipe_round_tests.proofs.BreakerLaws.{sorted_over}
use Rattle.pipe_round_tests.proofs.breakers.sorted.Goals as goal

pub returns : goal.returns
returns c = sorted_over c.in_ok-keys.keys _ c.in_ok-keys.ensures refl
