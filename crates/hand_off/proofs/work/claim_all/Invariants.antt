use Rattle.run_core.specs.Receipts.{lists_of}
use Rattle.hand_off.specs.Work.{point, Came}
use Rattle.hand_off.proofs.work.claim_all.Given as goal

abbrev pub invariant-loop : goal.invariant-loop
invariant-loop g l = record {
  runs : (goal.iterator-loop g).can_next l.iterator' × (goal.iterator-loop g).is_finite l.iterator';
  came : Came g.T.Numbered.number_of g.L.Out.Numbered.number_of g.L.Labour.right g.L.Labour.failed g.L.Labour.fits
      (point l.initial.seat l.initial.pass (g.L.Labour.about l.initial.labour) (g.L.Labour.loaded l.initial.labour) (g.L.Labour.results l.initial.labour) (g.L.Labour.failures l.initial.labour) (lists_of l.initial.receipt))
      (point l.seat l.pass (g.L.Labour.about l.labour) (g.L.Labour.loaded l.labour) (g.L.Labour.results l.labour) (g.L.Labour.failures l.labour) (lists_of l.receipt)) 0;
}
