use Rattle.std.proofs.Common.{◌∙◌, ap}
use Rattle.hand_off_tests.specs.Crew.{numbers_of}
use Rattle.hand_off_tests.proofs.Shown.{all_gained}
use Rattle.hand_off_tests.proofs.crew.Worker.work.Goals as goal

pub returns : goal.returns
returns g c =
    let h = c.work_all-worked.ensures.holds in
    let ready = c.requires in
    let r = c.in-Ok.ensures in
    record {
      placed = record { seat_of = h.seat.0 ∙ ready.placed.seat_of; seat_share = h.seat.1 ∙ ready.placed.seat_share; pass_of = h.pass.0 ∙ ready.placed.pass_of; pass_share = h.pass.1 ∙ ready.placed.pass_share };
      receipt = record {
        ended = r.ended;
        claimed = all_gained _ _ _ ready.numbers r.claimed;
        offered = r.offered.2.0 ∙ ap numbers_of (all_gained _ _ _ ready.offered r.offered.1);
        taken = r.finished.2.0 ∙ ap numbers_of (all_gained _ _ _ ready.taken r.finished.1);
        offers_own = r.own.0;
        finishes_own = r.own.1;
      };
    }
