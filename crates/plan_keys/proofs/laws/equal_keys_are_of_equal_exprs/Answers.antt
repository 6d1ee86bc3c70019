use Rattle.plan_keys.proofs.KeyLaws.{equal_keys}
use Rattle.plan_keys.proofs.laws.equal_keys_are_of_equal_exprs.Goals as goal

pub returns : goal.returns
returns c = equal_keys
