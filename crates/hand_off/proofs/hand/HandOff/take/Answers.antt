use Rattle.hand_off.proofs.Steps.{takes, sees}
use Rattle.hand_off.proofs.hand.HandOff.take.Goals as goal

pub pop_as-requires-clause-rule : goal.pop_as-requires-clause-rule
pop_as-requires-clause-rule g c =
    let some = c.pass.invariant.some_share in
    (takes _ _ some, sees _ _ some)
