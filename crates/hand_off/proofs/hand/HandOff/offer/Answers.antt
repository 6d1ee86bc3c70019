use Rattle.hand_off.proofs.Steps.{offers, sees}
use Rattle.hand_off.proofs.hand.HandOff.offer.Goals as goal

pub push_as-requires-clause-rule : goal.push_as-requires-clause-rule
push_as-requires-clause-rule g c =
    let some = c.pass.invariant.some_share in
    (offers _ _ _ _ some, sees _ _ some)
