use Rattle.hand_off.proofs.Gains.{begins}
use Rattle.hand_off.proofs.work.claim_all.Goals as goal

pub loop-init : goal.loop-init
loop-init g c = record { runs = (tt, tt); came = begins _ _ _ _ _ _ c.requires.start }

pub returns-in-Ok-false-clause-holds : goal.returns-in-Ok-false-clause-holds
returns-in-Ok-false-clause-holds g c = (c.in-Ok-false.ensures.came _ c.loop.invariant.came).holds

pub returns-in-Err-clause-holds : goal.returns-in-Err-clause-holds
returns-in-Err-clause-holds g c = c.in-Err.ensures.holds _ c.loop.invariant.came.holds
