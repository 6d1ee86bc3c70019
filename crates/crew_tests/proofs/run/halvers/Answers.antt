use Rattle.std.proofs.Common.{arith}
use Rattle.hand_off.proofs.Popping.{pushed_all}
use Rattle.crew_tests.specs.Halvers.{IsNew}
use Rattle.crew_tests.proofs.run.halvers.Goals as goal

pub loop-preserved : goal.loop-preserved
loop-preserved c =
    let i = c.loop.invariant in
    record {
      count = omega (arith, i.count, c.push_reserved.ensures.len);
      room = omega (arith, i.room, c.push_reserved.ensures.capacity);
      fresh = pushed_all IsNew _ _ _ c.push_reserved.ensures.items i.fresh c.halver.ensures;
    }
