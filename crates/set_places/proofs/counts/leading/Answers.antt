use Rattle.std.proofs.Common.{arith, inl, inr, length}
use Rattle.set_places.proofs.CountLaws.{leading_is}
use Rattle.set_places.proofs.counts.leading.Goals as goal

pub returns-then-alike-at-clause-times : goal.returns-then-alike-at-clause-times
returns-then-alike-at-clause-times c = λ test count is within low.
    leading_is test count c.args.end c.args.from c.loop-at.at c.args.alike.now is within low (omega arith) c.loop-at.invariant (inr c.if-alike-at.true)

pub returns-clause-times : goal.returns-clause-times
returns-clause-times c = λ test count is within low.
    leading_is test count c.args.end c.args.from (length c.args.alike.now) c.args.alike.now is within low (omega arith) (λ k d l h. c.loop-at.invariant k d l (omega arith)) (inl (omega arith))
