use Rattle.hash_join_tests.proofs.SpecLaws.{joinable}
use Rattle.hash_join_tests.proofs.conditions.spec_of.Goals as goal

pub returns : goal.returns
returns c = record {
  joinable = joinable _ c.in_ok-left.ensures c.in_ok-right.ensures c.in_ok-keys.ensures;
  left = c.in_ok-left.ensures;
  right = c.in_ok-right.ensures;
  rest = c.in_ok-rest.ensures;
}
