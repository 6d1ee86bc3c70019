use Rattle.std.proofs.Common.{[]}
use Rattle.crew.specs.Labours.{labour_view}
use Rattle.crew_round.specs.Rest.{rest_point, Advanced}
use Rattle.crew_round.proofs.rest.work_rest.Given as goal

abbrev pub invariant-loop : goal.invariant-loop
invariant-loop g l = record {
  runs : (goal.iterator-loop g).can_next l.iterator' × (goal.iterator-loop g).is_finite l.iterator';
  advanced : Advanced g.T.Numbered.number_of g.L.Out.Numbered.number_of g.L.Labour.fits
      (rest_point l.fn.rest (labour_view (g.L.Labour.about l.fn.labour) (g.L.Labour.loaded l.fn.labour) (g.L.Labour.results l.fn.labour) (g.L.Labour.failures l.fn.labour)) [])
      (rest_point l.rest (labour_view (g.L.Labour.about l.labour) (g.L.Labour.loaded l.labour) (g.L.Labour.results l.labour) (g.L.Labour.failures l.labour)) l.left.items);
}
