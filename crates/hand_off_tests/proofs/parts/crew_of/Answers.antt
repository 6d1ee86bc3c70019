use Rattle.std.proofs.Common.{◌≡◌, [], false, arith}
use Rattle.scan_claims.specs.Claims.{SeatView}
use Rattle.hand_off.specs.Hand.{PassView}
use Rattle.hand_off.proofs.Popping.{popped_all, pushed_all}
use Rattle.hand_off_tests.specs.Crew.{IsReady}
use Rattle.hand_off_tests.specs.declared.numbers.Item.{Item}
use Rattle.hand_off_tests.proofs.parts.crew_of.Goals as goal

pub loop-seat-preserved : goal.loop-seat-preserved
loop-seat-preserved c =
    let s = c.in-Some.ensures in
    let p = c.in-Some-pop.ensures in
    let seats_of = popped_all (λ (t : SeatView). t.of ≡ c.args.claims.now) _ _ _ s.items c.loop-seat.invariant.seats_of in
    let seats = popped_all (λ (t : SeatView). (t.numbers ≡ []) × (t.ended ≡ false) × (t.share ≡ 1)) _ _ _ s.items c.loop-seat.invariant.seats in
    let passes_of = popped_all (λ (q : PassView Item). q.of ≡ c.args.hand.now) _ _ _ p.items c.loop-seat.invariant.passes_of in
    let passes = popped_all (λ (q : PassView Item). (q.offered ≡ []) × (q.taken ≡ []) × (q.share ≡ 1)) _ _ _ p.items c.loop-seat.invariant.passes in
    record {
      count = omega (arith, s.cases, p.cases);
      made = omega (arith, s.cases, c.push_reserved.ensures.len);
      room = omega (arith, s.cases, c.push_reserved.ensures.len, c.push_reserved.ensures.capacity);
      seats_of = seats_of.0;
      seats = seats.0;
      passes_of = passes_of.0;
      passes = passes.0;
      ready = pushed_all (IsReady c.args.claims.now c.args.hand.now) _ _ _ c.push_reserved.ensures.items c.loop-seat.invariant.ready
          record {
            placed = record { seat_of = seats_of.1; seat_share = seats.1.2; pass_of = passes_of.1; pass_share = passes.1.2 };
            numbers = seats.1.0;
            offered = passes.1.0;
            taken = passes.1.1;
          };
    }
