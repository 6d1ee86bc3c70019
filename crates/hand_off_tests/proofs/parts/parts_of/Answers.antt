use Rattle.std.proofs.Common.{List, map, Option, IfSome, arith, sym, ap, ◌∙◌, subst}
use Rattle.std.proofs.lemmas.List.{map_push}
use Rattle.run_core.specs.Receipts.{Lists, lists_of}
use Rattle.run_core.specs.declared.receipt.Receipt.{Receipt}
use Rattle.scan_claims.specs.Claims.{SeatView}
use Rattle.hand_off.specs.Hand.{PassView}
use Rattle.hand_off.proofs.Popping.{popped_all}
use Rattle.hand_off_tests.specs.Crew.{IsDone, Shows, AreParts}
use Rattle.hand_off_tests.specs.declared.numbers.Item.{Item}
use Rattle.hand_off_tests.proofs.Together.{adds_part}
use Rattle.hand_off_tests.proofs.parts.parts_of.Goals as goal

pub loop-worker-preserved : goal.loop-worker-preserved
loop-worker-preserved c =
    let e = c.in-Some.ensures in
    let worker = c.in-Some.worker in
    let before = c.loop-worker.invariant in
    let done = popped_all (IsDone c.args.claims.now c.args.hand.now) _ _ _ e.items before.done in
    let placed = done.1.placed in
    let shows = subst (λ (o : Option Receipt). IfSome o (λ r. Shows worker.seat worker.pass (lists_of r))) c.in-Some-receipt.is done.1.receipt in
    let added = adds_part c.args.claims.now c.args.hand.now c.loop-worker.seats.items c.loop-worker.passes.items (map lists_of c.loop-worker.receipts.items) worker.seat worker.pass (lists_of c.in-Some-receipt.receipt)
    before.parts placed.seat_of placed.seat_share placed.pass_of placed.pass_share shows in
    let seats = c.push_reserved.ensures.items in
    let passes = c.push_reserved-in-Some.ensures.items in
    let receipts = ap (map lists_of) c.push_reserved-in-Some-2.ensures.items ∙ map_push lists_of c.loop-worker.receipts.items c.in-Some-receipt.receipt in
    record {
      seat_count = omega (arith, e.cases, before.seat_count, c.push_reserved.ensures.len);
      pass_count = omega (arith, e.cases, before.pass_count, c.push_reserved-in-Some.ensures.len);
      receipt_count = omega (arith, e.cases, before.receipt_count, c.push_reserved-in-Some-2.ensures.len);
      seat_room = omega (arith, before.seat_room, c.push_reserved.ensures.capacity);
      pass_room = omega (arith, before.pass_room, c.push_reserved-in-Some.ensures.capacity);
      receipt_room = omega (arith, before.receipt_room, c.push_reserved-in-Some-2.ensures.capacity);
      done = done.0;
      parts = subst (λ (q : List SeatView × List (PassView Item) × List Lists). AreParts c.args.claims.now c.args.hand.now q.0 q.1 q.2) (λ i. (sym seats i, sym passes i, sym receipts i)) added;
    }
