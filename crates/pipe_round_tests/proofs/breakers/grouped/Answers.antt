use Rattle.pipe_round_tests.proofs.BreakerLaws.{grouped_over}
use Rattle.pipe_round_tests.proofs.breakers.grouped.Goals as goal

pub returns : goal.returns
returns c = grouped_over _ _ c.in_ok-groups.ensures c.in_ok-measures.ensures
