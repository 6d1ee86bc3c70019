use Rattle.std.proofs.Common.{refl, ◌<◌, ℕ, arith}
use Rattle.run_accepted.proofs.BareLaws.{count_places, place_at, each_place}
use Rattle.run_accepted.proofs.bare.are_all_places.Goals as goal

pub returns-then-places-count : goal.returns-then-places-count
returns-then-places-count c = (λ is. absurd (cc), λ is. absurd (c.if-places-count.true (count_places c.args.places.now c.args.count is)))

pub returns-then-place-i : goal.returns-then-place-i
returns-then-place-i c = (λ is. absurd (cc), λ is. absurd (c.if-place-i.true (place_at c.args.places.now c.args.count c.loop-i.i c.loop-i-test.true is)))

pub returns : goal.returns
returns c =
    let all : (k : ℕ) → k < c.args.count → k < c.loop-i.i = λ k below. omega (arith, c.if-places-count.false, c.loop-i-test.false, below) in
    (λ _. each_place c.args.places.now c.args.count c.if-places-count.false (λ k below. c.loop-i.invariant k (all k below)), λ _. refl)
