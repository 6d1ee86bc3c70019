use Rattle.hand_off.proofs.Steps.{sees}
use Rattle.hand_off.proofs.hand.HandOff.look.Goals as goal

pub learn_as-requires-clause-rule : goal.learn_as-requires-clause-rule
learn_as-requires-clause-rule g c = sees _ _ c.pass.invariant.some_share
