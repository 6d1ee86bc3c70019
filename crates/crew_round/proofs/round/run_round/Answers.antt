use Rattle.std.proofs.Common.{◌≡◌, ℕ, ◌≤◌, true, List, map, vec_len, arith, rules, sym, ap, ◌∙◌, subst}
use Rattle.std.specs.Vec.{vec_capacity}
use Rattle.std.specs.List.{range_with_len}
use Rattle.run_core.specs.Counts.{once_below}
use Rattle.run_core.specs.Receipts.{Lists, lists_of, IsBalanced}
use Rattle.scan_claims.specs.Claims.{SeatView}
use Rattle.hand_off.specs.Hand.{PassView}
use Rattle.crew.specs.Labours.{labour_view}
use Rattle.crew.specs.Room.{IsRoomFor}
use Rattle.crew.specs.declared.worker.Worker.{Worker}
use Rattle.crew_round.specs.Ended.{HaveEnded}
use Rattle.crew_round.proofs.Together.{have_ended}
use Rattle.crew_round.proofs.Whole.{back_length, maps_length, back_same, all_same}
use Rattle.crew_round.proofs.round.run_round.Goals as goal

pub parts_of-parts-requires-clause-room : goal.parts_of-parts-requires-clause-room
parts_of-parts-requires-clause-room g c =
    let W = Worker g.row.T.Denot g.row.L.Denot in
    let len = back_length (λ (w : W). w.labour) c.workers_of-crew.result.items c.args.labours.now.items c.workers_of-crew.ensures.moved in
    let same = maps_length (λ (w : W). g.L.Labour.about w.labour) (λ (w : W). g.L.Labour.about w.labour) c.run_workers-crew.result.items c.workers_of-crew.result.items c.run_workers-crew.ensures.about in
    let count : c.len-workers.result ≡ vec_len c.run_workers-crew.result = omega (arith, len, same, c.run_workers-crew.result.ok.0, c.args.labours.now.ok.0, c.len-workers.ensures) in
    let room : IsRoomFor (vec_len c.run_workers-crew.result) c.in_ok-parts.parts = subst (λ (n : ℕ). IsRoomFor n c.in_ok-parts.parts) count c.in_ok-parts.ensures in
    λ lives within. room

pub parts_of-parts-requires-clause-labours : goal.parts_of-parts-requires-clause-labours
parts_of-parts-requires-clause-labours g c =
    let W = Worker g.row.T.Denot g.row.L.Denot in
    let len = back_length (λ (w : W). w.labour) c.workers_of-crew.result.items c.args.labours.now.items c.workers_of-crew.ensures.moved in
    let same = maps_length (λ (w : W). g.L.Labour.about w.labour) (λ (w : W). g.L.Labour.about w.labour) c.run_workers-crew.result.items c.workers_of-crew.result.items c.run_workers-crew.ensures.about in
    let room : vec_len c.run_workers-crew.result ≤ vec_capacity c.workers_of-crew.new.labours = omega (arith, len, same, c.run_workers-crew.result.ok.0, c.args.labours.now.ok.0, c.workers_of-crew.ensures.emptied.1, c.args.labours.now.ok.1) in
    λ lives within. (c.workers_of-crew.ensures.emptied.0, room)

pub close_round-requires-clause-ended : goal.close_round-requires-clause-ended
close_round-requires-clause-ended g c =
    let W = Worker g.row.T.Denot g.row.L.Denot in
    let len = back_length (λ (w : W). w.labour) c.workers_of-crew.result.items c.args.labours.now.items c.workers_of-crew.ensures.moved in
    let same = maps_length (λ (w : W). g.L.Labour.about w.labour) (λ (w : W). g.L.Labour.about w.labour) c.run_workers-crew.result.items c.workers_of-crew.result.items c.run_workers-crew.ensures.about in
    let see = λ (l : g.row.L.Denot). labour_view (g.L.Labour.about l) (g.L.Labour.loaded l) (g.L.Labour.results l) (g.L.Labour.failures l) in
    let p = c.parts_of-parts.ensures in
    let ended
    : c.parts_of-parts.result.complete ≡ true
    → HaveEnded g.T.Numbered.number_of g.L.Out.Numbered.number_of g.L.Labour.right g.L.Labour.failed g.L.Labour.fits see c.in_ok-claims.claims c.in_ok-hand.hand
    c.parts_of-parts.result.seats.items c.parts_of-parts.result.passes.items (map lists_of c.parts_of-parts.result.receipts.items) c.parts_of-parts.new.labours.items
    = λ complete.
    subst
    (λ (q : List SeatView × List (PassView g.row.T.Denot) × List Lists × List g.row.L.Denot).
    HaveEnded g.T.Numbered.number_of g.L.Out.Numbered.number_of g.L.Labour.right g.L.Labour.failed g.L.Labour.fits see c.in_ok-claims.claims c.in_ok-hand.hand q.0 q.1 q.2 q.3)
    (λ i. (sym p.seats i, sym p.passes i, sym (p.receipts complete) i, sym p.labours i))
    (have_ended g.T.Numbered.number_of g.L.Out.Numbered.number_of g.L.Labour.right g.L.Labour.failed g.L.Labour.fits see c.in_ok-claims.claims c.in_ok-hand.hand c.run_workers-crew.result.items
    (omega (arith, len, same, c.run_workers-crew.result.ok.0, c.args.labours.now.ok.0, c.requires.workers)) (omega (arith, len, same, c.run_workers-crew.result.ok.0, c.args.labours.now.ok.0, c.len-workers.ensures, c.in_ok-claims.ensures.claims.1)) (omega (arith, len, same, c.run_workers-crew.result.ok.0, c.args.labours.now.ok.0, c.len-workers.ensures, c.in_ok-hand.ensures.hand.1))
    c.run_workers-crew.ensures.ended (p.complete complete)) in
    search rules

pub returns-clause-about : goal.returns-clause-about
returns-clause-about g c =
    let W = Worker g.row.T.Denot g.row.L.Denot in
    c.in_ok-round.ensures.about
    ∙ back_same (λ (w : W). w.labour) g.L.Labour.about c.run_workers-crew.result.items c.workers_of-crew.result.items c.parts_of-parts.new.labours.items c.args.labours.now.items c.run_workers-crew.ensures.about
    c.parts_of-parts.ensures.labours c.workers_of-crew.ensures.moved

pub returns-in_err-round-clause-about : goal.returns-in_err-round-clause-about
returns-in_err-round-clause-about g c =
    let W = Worker g.row.T.Denot g.row.L.Denot in
    c.in_err-round.ensures.about
    ∙ back_same (λ (w : W). w.labour) g.L.Labour.about c.run_workers-crew.result.items c.workers_of-crew.result.items c.parts_of-parts.new.labours.items c.args.labours.now.items c.run_workers-crew.ensures.about
    c.parts_of-parts.ensures.labours c.workers_of-crew.ensures.moved

pub returns-clause-workers : goal.returns-clause-workers
returns-clause-workers g c =
    let W = Worker g.row.T.Denot g.row.L.Denot in
    let about = back_same (λ (w : W). w.labour) g.L.Labour.about c.run_workers-crew.result.items c.workers_of-crew.result.items c.parts_of-parts.new.labours.items c.args.labours.now.items c.run_workers-crew.ensures.about
    c.parts_of-parts.ensures.labours c.workers_of-crew.ensures.moved in
    let same = maps_length g.L.Labour.about g.L.Labour.about c.parts_of-parts.new.labours.items c.args.labours.now.items about in
    omega (arith, c.in_ok-round.ensures.workers, same)

pub returns-clause-balanced : goal.returns-clause-balanced
returns-clause-balanced g c = subst (λ (n : ℕ). IsBalanced n (map lists_of c.in_ok-round.round.receipts.items) c.in_ok-round.round.left.items) c.in_ok-claims.ensures.claims.0 c.in_ok-round.ensures.balanced

pub returns-clause-loaded : goal.returns-clause-loaded
returns-clause-loaded g c = λ x. c.in_ok-round.ensures.loaded x ∙ ap (once_below x) c.in_ok-claims.ensures.claims.0

pub returns-clause-numbers : goal.returns-clause-numbers
returns-clause-numbers g c = c.in_ok-round.ensures.numbers ∙ ap (range_with_len 0) c.in_ok-claims.ensures.claims.0

pub returns-clause-fair : goal.returns-clause-fair
returns-clause-fair g c = λ a all.
    let W = Worker g.row.T.Denot g.row.L.Denot in
    let about = back_same (λ (w : W). w.labour) g.L.Labour.about c.run_workers-crew.result.items c.workers_of-crew.result.items c.parts_of-parts.new.labours.items c.args.labours.now.items c.run_workers-crew.ensures.about
    c.parts_of-parts.ensures.labours c.workers_of-crew.ensures.moved in
    c.in_ok-round.ensures.fair a (all_same g.L.Labour.about a c.parts_of-parts.new.labours.items c.args.labours.now.items about all)
