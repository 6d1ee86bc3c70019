use Rattle.std.proofs.Common.{◌≡◌, [], false, arith, refl, ◌∙◌}
use Rattle.scan_claims.specs.Claims.{SeatView}
use Rattle.hand_off.specs.Hand.{PassView}
use Rattle.hand_off.proofs.Popping.{popped_all, pushed_all}
use Rattle.crew.specs.Labours.{labour_view, IsFresh}
use Rattle.crew.specs.Workers.{IsReady}
use Rattle.crew.specs.declared.worker.Worker.{Worker}
use Rattle.crew.proofs.Moves.{made, numbered}
use Rattle.crew.proofs.parts.workers_of.Goals as goal

pub loop-labour-preserved : goal.loop-labour-preserved
loop-labour-preserved g c =
    let see = λ (o : g.row.L.Denot). labour_view (g.L.Labour.about o) (g.L.Labour.loaded o) (g.L.Labour.results o) (g.L.Labour.failures o) in
    let o = c.in-Some.ensures in
    let s = c.in-Some-pop.ensures in
    let p = c.in-Some-pop-2.ensures in
    let i = c.loop-labour.invariant in
    let seats_of = popped_all (λ (t : SeatView). t.of ≡ c.args.claims.now) _ _ _ s.items i.seats_of in
    let seats = popped_all (λ (t : SeatView). (t.numbers ≡ []) × (t.ended ≡ false) × (t.share ≡ 1)) _ _ _ s.items i.seats in
    let passes_of = popped_all (λ (q : PassView g.row.T.Denot). q.of ≡ c.args.hand.now) _ _ _ p.items i.passes_of in
    let passes = popped_all (λ (q : PassView g.row.T.Denot). (q.offered ≡ []) × (q.taken ≡ []) × (q.share ≡ 1)) _ _ _ p.items i.passes in
    let fresh = popped_all (IsFresh see) _ _ _ o.items i.fresh in
    record {
      seat_count = omega (arith, o.cases, s.cases, i.seat_count);
      pass_count = omega (arith, o.cases, p.cases, i.pass_count);
      room = omega (arith, o.cases, i.room, c.push_reserved.ensures.len, c.push_reserved.ensures.capacity);
      few = omega (arith, o.cases, i.few, c.push_reserved.ensures.len);
      capacity = o.capacity ∙ i.capacity;
      seats_of = seats_of.0;
      seats = seats.0;
      passes_of = passes_of.0;
      passes = passes.0;
      fresh = fresh.0;
      all = omega (arith, o.cases, i.all, c.push_reserved.ensures.len);
      numbers = numbered (λ (w : Worker g.row.T.Denot g.row.L.Denot). w.number) _ _ _ i.numbers c.push_reserved.ensures.items (omega (arith, c.len-number.ensures, c.loop-labour.workers.ok.0));
      moved = made (λ (w : Worker g.row.T.Denot g.row.L.Denot). w.labour) _ _ _ _ _ c.in-Some.labour _ o.items c.push_reserved.ensures.items refl i.moved;
      ready = pushed_all (IsReady see c.args.claims.now c.args.hand.now) _ _ _ c.push_reserved.ensures.items i.ready
          record {
            placed = record { seat_of = seats_of.1; seat_share = seats.1.2; pass_of = passes_of.1; pass_share = passes.1.2 };
            numbers = seats.1.0;
            offered = passes.1.0;
            taken = passes.1.1;
            labour = fresh.1;
          };
    }
