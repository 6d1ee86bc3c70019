use Rattle.std.proofs.lemmas.Result.{IfOk-weaker}
use Rattle.crew.specs.Labours.{labour_view}
use Rattle.crew_round.specs.Rest.{IsWorkedOff, IsWorkedByLast}
use Rattle.crew_round.proofs.Leftover.{worked_by_last}
use Rattle.crew_round.proofs.rest.work_rest_by_last.Goals as goal

pub returns-clause-worked : goal.returns-clause-worked
returns-clause-worked g c =
    let see = λ (l : g.row.L.Denot). labour_view (g.L.Labour.about l) (g.L.Labour.loaded l) (g.L.Labour.results l) (g.L.Labour.failures l) in
    IfOk-weaker c.work_rest-worked.result
    (λ left. IsWorkedOff g.T.Numbered.number_of g.L.Out.Numbered.number_of g.L.Labour.fits c.args.rest (see c.in-Some.last) (see c.work_rest-worked.new.labour) left.items)
    (λ left. IsWorkedByLast g.T.Numbered.number_of g.L.Out.Numbered.number_of g.L.Labour.fits see c.args.rest c.args.labours.now.items c.push_reserved.new.self.items left.items)
    (λ left k. worked_by_last g.T.Numbered.number_of g.L.Out.Numbered.number_of g.L.Labour.fits see c.args.rest c.args.labours.now.items c.pop.new.self.items c.push_reserved.new.self.items
    c.in-Some.last c.work_rest-worked.new.labour left.items c.in-Some.ensures.items c.push_reserved.ensures.items k)
    c.work_rest-worked.ensures.worked
