use Rattle.std.proofs.Common.{ap, arith}
use Rattle.hand_off.specs.Hand.{PassView}
use Rattle.hand_off.proofs.Steps.{splits}
use Rattle.hand_off.proofs.hand.HandOff.split.Goals as goal

pub another-requires-clause-rule : goal.another-requires-clause-rule
another-requires-clause-rule g c =
    let share = ap (λ (p : PassView _). p.share) c.pass.view_is in
    splits _ _ (omega (arith, share, c.requires.shares))
