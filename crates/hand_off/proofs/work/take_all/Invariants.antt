use Rattle.std.proofs.Common.{◌≡◌}
use Rattle.run_core.specs.Receipts.{lists_of}
use Rattle.scan_claims.specs.Claims.{SeatView}
use Rattle.hand_off.specs.Work.{Point, point, Came}
use Rattle.hand_off.proofs.work.take_all.Given as goal

abbrev pub invariant-loop : goal.invariant-loop
invariant-loop g l = record {
  runs : (goal.iterator-loop g).can_next l.iterator' × (goal.iterator-loop g).is_finite l.iterator';
  of : l.pass.of ≡ l.hand;
  came : (seat : SeatView) (start : Point _ _ _)
      → Came g.T.Numbered.number_of g.L.Out.Numbered.number_of g.L.Labour.right g.L.Labour.failed g.L.Labour.fits start
      (point seat l.initial.pass (g.L.Labour.about l.initial.labour) (g.L.Labour.loaded l.initial.labour) (g.L.Labour.results l.initial.labour) (g.L.Labour.failures l.initial.labour) (lists_of l.initial.receipt)) 0
      → Came g.T.Numbered.number_of g.L.Out.Numbered.number_of g.L.Labour.right g.L.Labour.failed g.L.Labour.fits start
      (point seat l.pass (g.L.Labour.about l.labour) (g.L.Labour.loaded l.labour) (g.L.Labour.results l.labour) (g.L.Labour.failures l.labour) (lists_of l.receipt)) 0;
}
