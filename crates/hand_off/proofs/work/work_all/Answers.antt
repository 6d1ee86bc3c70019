use Rattle.std.proofs.Common.{arith}
use Rattle.hand_off.proofs.Gains.{holds_anyway}
use Rattle.hand_off.proofs.work.work_all.Goals as goal

pub returns-in-Err-take_all-clause-holds : goal.returns-in-Err-take_all-clause-holds
returns-in-Err-take_all-clause-holds g c =
    holds_anyway _ _ _ _ _ _ _ _ _ _ _ _ _ _ _ _ (c.in-Err-take_all.ensures.holds c.claim_all-claimed.new.seat _ c.in_default.ensures.came)

pub returns-clause-own : goal.returns-clause-own
returns-clause-own g c =
    let k = c.in_default-take_all.ensures.came c.claim_all-claimed.new.seat _ c.in_default.ensures.came in
    (k.own, λ x. omega (arith, k.own x, k.balance x))
