use Rattle.pipe_round_tests.proofs.SpecLaws.{joinable}
use Rattle.pipe_round_tests.proofs.joins.spec_of.Goals as goal

pub returns-clause-joinable : goal.returns-clause-joinable
returns-clause-joinable c = joinable _ c.in_ok-left.ensures c.in_ok-right.ensures c.in_ok-keys.ensures
