use Rattle.std.proofs.Common.{arith, ◌∙◌}
use Rattle.hand_off.proofs.work.take_all.Goals as goal

pub loop-preserved : goal.loop-preserved
loop-preserved g c = record {
  runs = (tt, tt);
  of = c.take_one-taken.ensures.of ∙ c.loop.invariant.of;
  came = λ seat start k. c.in-Ok-true.ensures.came seat start 0 (omega arith) (c.loop.invariant.came seat start k);
}

pub returns-in-Err-clause-holds : goal.returns-in-Err-clause-holds
returns-in-Err-clause-holds g c = λ seat start k. c.in-Err.ensures.holds seat start (c.loop.invariant.came seat start k).holds
