use Rattle.std.proofs.Common.{ℕ, List, [], subst, sym, ◌∙◌}
use Rattle.crew.specs.Labours.{labour_view}
use Rattle.crew_round.specs.Rest.{rest_point, Advanced}
use Rattle.crew_round.proofs.Leftover.{advanced_none, worked_off}
use Rattle.crew_round.proofs.rest.work_rest.Goals as goal

pub loop-init : goal.loop-init
loop-init g c =
    let now = labour_view (g.L.Labour.about c.args.labour.now) (g.L.Labour.loaded c.args.labour.now) (g.L.Labour.results c.args.labour.now) (g.L.Labour.failures c.args.labour.now) in
    record {
      runs = (tt, tt);
      advanced = subst (λ (left : List ℕ). Advanced g.T.Numbered.number_of g.L.Out.Numbered.number_of g.L.Labour.fits (rest_point c.args.rest now []) (rest_point c.args.rest now left)) (sym c.new-left.ensures.items)
          (advanced_none g.T.Numbered.number_of g.L.Out.Numbered.number_of g.L.Labour.fits (rest_point c.args.rest now []));
    }

pub returns-in-Ok-false-clause-about : goal.returns-in-Ok-false-clause-about
returns-in-Ok-false-clause-about g c = c.in-Ok-false.ensures.about ∙ c.loop.invariant.advanced.about

pub returns-in-Ok-false-clause-worked : goal.returns-in-Ok-false-clause-worked
returns-in-Ok-false-clause-worked g c =
    let see = λ (l : g.row.L.Denot). labour_view (g.L.Labour.about l) (g.L.Labour.loaded l) (g.L.Labour.results l) (g.L.Labour.failures l) in
    let start = rest_point c.args.rest (see c.args.labour.now) [] in
    let now = c.work_one-worked.new in
    worked_off g.T.Numbered.number_of g.L.Out.Numbered.number_of g.L.Labour.fits c.args.rest now.rest (see c.args.labour.now) (see now.labour) now.left.items
    (c.in-Ok-false.ensures.worked start c.loop.invariant.advanced) (c.in-Ok-false.ensures.over c.in-Ok-false.field-0-test)
