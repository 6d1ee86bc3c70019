use Rattle.std.proofs.Common.{◌∙◌, ap, List, ◌++◌, ◌∷◌, [], ℕ}
use Rattle.crew.specs.Labours.{labour_view}
use Rattle.crew_round.specs.Rest.{rest_point}
use Rattle.crew_round.proofs.Leftover.{advanced_one}
use Rattle.crew_round.proofs.rest.work_one.Goals as goal

pub returns-clause-worked : goal.returns-clause-worked
returns-clause-worked g c = λ start k.
    let see = λ (l : g.row.L.Denot). labour_view (g.L.Labour.about l) (g.L.Labour.loaded l) (g.L.Labour.results l) (g.L.Labour.failures l) in
    let e = c.in-Some.ensures in
    let w = c.in_ok-work.ensures in
    advanced_one g.T.Numbered.number_of g.L.Out.Numbered.number_of g.L.Labour.fits start
    (rest_point c.args.rest.now (see c.args.labour.now) c.args.left.now.items)
    (rest_point c.next.new.self (see c.work.new.self) c.push_reserved.new.self.items)
    c.in-Some.item c.number.result
    w.about w.loaded w.failures e.offered e.given (c.push_reserved.ensures.items ∙ ap (λ (xs : List ℕ). xs ++ c.number.result ∷ []) c.in_ok-reserve.ensures.items) c.number.ensures
    w.worked (g.met.L.Labour.same_number (g.L.Labour.about c.args.labour.now) c.in-Some.item w.worked.0 w.worked.2) k
