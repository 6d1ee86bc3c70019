use Rattle.hand_off.proofs.Steps.{joins}
use Rattle.hand_off.proofs.hand.HandOff.join.Goals as goal

pub absorb-requires-clause-rule : goal.absorb-requires-clause-rule
absorb-requires-clause-rule g c = joins _ _ _ _ c.pass.invariant.some_share
