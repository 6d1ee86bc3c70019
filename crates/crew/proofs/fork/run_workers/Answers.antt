use Rattle.std.proofs.Common.{drop, length, map, All, arith, ap, sym, subst, ◌∙◌}
use Rattle.std.proofs.lemmas.List.{take_at}
use Rattle.crew.specs.Labours.{labour_view}
use Rattle.crew.specs.Workers.{IsEnded}
use Rattle.crew.specs.declared.worker.Worker.{Worker}
use Rattle.crew.proofs.Moves.{same_maps}
use Rattle.crew.proofs.fork.run_workers.Goals as goal

pub returns-clause-about : goal.returns-clause-about
returns-clause-about g c =
    let e = c.fork_workers.ensures in
    let about = λ (w : Worker g.row.T.Denot g.row.L.Denot). g.L.Labour.about w.labour in
    let back = take_at c.fork_workers.new.workers (drop (length c.fork_workers.new.workers) c.args.workers.items) c.args.workers.len (omega (arith, e.count)) in
    ap (map about) back
    ∙ same_maps about c.fork_workers.new.workers c.as_mut_slice.result.now e.count (λ k d below. (e.each k d (omega (arith, e.count, below))).about)
    ∙ ap (map about) c.as_mut_slice.ensures.value

pub returns-clause-ended : goal.returns-clause-ended
returns-clause-ended g c =
    let see = λ (l : g.row.L.Denot). labour_view (g.L.Labour.about l) (g.L.Labour.loaded l) (g.L.Labour.results l) (g.L.Labour.failures l) in
    let e = c.fork_workers.ensures in
    let back = take_at c.fork_workers.new.workers (drop (length c.fork_workers.new.workers) c.args.workers.items) c.args.workers.len (omega (arith, e.count)) in
    subst (All (IsEnded g.T.Numbered.number_of g.L.Out.Numbered.number_of g.L.Labour.right g.L.Labour.failed g.L.Labour.fits see c.args.claims.now c.args.hand.now)) (sym back)
    (λ k d below. (e.each k d (omega (arith, e.count, below))).ended)
