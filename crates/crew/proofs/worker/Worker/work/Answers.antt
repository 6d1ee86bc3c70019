use Rattle.std.proofs.Common.{◌∙◌}
use Rattle.run_core.specs.Receipts.{lists_of}
use Rattle.crew.specs.Labours.{labour_view}
use Rattle.crew.proofs.Shown.{shows}
use Rattle.crew.proofs.worker.Worker.work.Goals as goal

pub returns : goal.returns
returns g c =
    let see = λ (l : g.row.L.Denot). labour_view (g.L.Labour.about l) (g.L.Labour.loaded l) (g.L.Labour.results l) (g.L.Labour.failures l) in
    let h = c.work_all-worked.ensures.holds in
    let ready = c.requires in
    let r = c.in-Ok.ensures in
    record {
      about = h.about;
      ended = record {
        placed = record { seat_of = h.seat.0 ∙ ready.placed.seat_of; seat_share = h.seat.1 ∙ ready.placed.seat_share; pass_of = h.pass.0 ∙ ready.placed.pass_of; pass_share = h.pass.1 ∙ ready.placed.pass_share };
        receipt = shows g.T.Numbered.number_of g.L.Out.Numbered.number_of g.L.Labour.right g.L.Labour.failed g.L.Labour.fits
            c.args.self.now.seat c.work_all-worked.new.seat c.args.self.now.pass c.work_all-worked.new.pass (see c.args.self.now.labour) (see c.work_all-worked.new.labour) (lists_of c.in-Ok.receipt)
            ready.numbers ready.offered ready.taken ready.labour.loaded ready.labour.results ready.labour.failures h.about
            r.ended r.claimed r.loaded r.offered r.finished r.own.0 r.own.1;
      };
    }
