use Rattle.std.proofs.Common.{get_or, refl}
use Rattle.set_places.specs.Taken.{times_each, least}
use Rattle.set_places.proofs.CountLaws.{least_more, least_all}
use Rattle.set_places.proofs.counts.least_in.Goals as goal

pub loop-end-preserved : goal.loop-end-preserved
loop-end-preserved c =
    let ends = c.args.ends.now in
    let i = c.loop-end.end-index in
    record {
      within = c.leading-next.ensures.within;
      least = λ test count start is are from.
          least_more test count c.loop-end.at c.leading-next.result c.loop-end.least c.min-least.result (get_or ends i 0) ends i (least c.args.least (times_each test start ends)) c.loop-end-test.true refl
          (λ within low. c.leading-next.ensures.times test count is within low) c.min-least.ensures (c.loop-end.invariant.least test count start is are from);
    }

pub returns : goal.returns
returns c = λ test count start is are from.
    least_all test count c.loop-end.at c.loop-end.least c.args.ends.now c.loop-end.end-index (least c.args.least (times_each test start c.args.ends.now)) c.loop-end-test.false (c.loop-end.invariant.least test count start is are from)
