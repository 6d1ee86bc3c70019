use Rattle.std.proofs.Common.{ℕ, map, All, arith, sym, ◌∙◌, subst}
use Rattle.std.proofs.lemmas.List.{length-map}
use Rattle.run_core.specs.Counts.{times}
use Rattle.run_core.specs.Receipts.{lists_of}
use Rattle.crew.specs.Labours.{labour_view}
use Rattle.crew_round.specs.Fair.{IsFair}
use Rattle.crew_round.proofs.Settled.{balanced, loaded_once, in_order, all_fair, same_sum}
use Rattle.crew_round.proofs.close.close_round.Goals as goal

pub finish-drawn-requires-clause-of : goal.finish-drawn-requires-clause-of
finish-drawn-requires-clause-of g c = (c.requires.ended c.if-not-complete.false).seats_of

pub finish-drawn-requires-clause-all : goal.finish-drawn-requires-clause-all
finish-drawn-requires-clause-all g c = (c.requires.ended c.if-not-complete.false).seat_shares

pub finish-rest-requires-clause-of : goal.finish-rest-requires-clause-of
finish-rest-requires-clause-of g c = λ lives within. (c.requires.ended c.if-not-complete.false).passes_of

pub finish-rest-requires-clause-all : goal.finish-rest-requires-clause-all
finish-rest-requires-clause-all g c = λ lives within. (c.requires.ended c.if-not-complete.false).pass_shares

pub returns-in_err-outs-clause-about : goal.returns-in_err-outs-clause-about
returns-in_err-outs-clause-about g c = c.in_err-outs.ensures.about ∙ c.in_ok-left.ensures.about

pub returns-clause-about : goal.returns-clause-about
returns-clause-about g c = c.in_ok-outs.ensures.about ∙ c.in_ok-left.ensures.about

pub returns-clause-workers : goal.returns-clause-workers
returns-clause-workers g c =
    let k = c.requires.ended c.if-not-complete.false in
    omega (arith, k.workers, length-map c.args.parts.receipts.items lists_of)

pub returns-clause-balanced : goal.returns-clause-balanced
returns-clause-balanced g c =
    let see = λ (l : g.row.L.Denot). labour_view (g.L.Labour.about l) (g.L.Labour.loaded l) (g.L.Labour.results l) (g.L.Labour.failures l) in
    let k = c.requires.ended c.if-not-complete.false in
    balanced g.T.Numbered.number_of g.L.Out.Numbered.number_of g.L.Labour.right g.L.Labour.failed g.L.Labour.fits see
    c.args.claims.count c.args.claims c.args.hand c.args.parts.seats.items c.args.parts.passes.items (map lists_of c.args.parts.receipts.items)
    c.finish-drawn.result c.finish-rest.result c.args.labours.now.items c.work_rest_by_last.new.labours.items c.in_ok-left.left.items
    record { ended = k; drew = c.finish-drawn.ensures.numbers; whole = c.finish-drawn.ensures.whole k.ended; offers = c.finish-rest.ensures.offered; takes = c.finish-rest.ensures.taken; worked = c.in_ok-left.ensures.worked }

pub returns-clause-loaded : goal.returns-clause-loaded
returns-clause-loaded g c = λ x.
    let see = λ (l : g.row.L.Denot). labour_view (g.L.Labour.about l) (g.L.Labour.loaded l) (g.L.Labour.results l) (g.L.Labour.failures l) in
    let k = c.requires.ended c.if-not-complete.false in
    same_sum (times x) g.L.Labour.loaded c.outcomes.new.labours.items c.work_rest_by_last.new.labours.items c.in_ok-outs.ensures.loaded
    ∙ loaded_once g.T.Numbered.number_of g.L.Out.Numbered.number_of g.L.Labour.right g.L.Labour.failed g.L.Labour.fits see
    c.args.claims.count c.args.claims c.args.hand c.args.parts.seats.items c.args.parts.passes.items (map lists_of c.args.parts.receipts.items)
    c.finish-drawn.result c.finish-rest.result c.args.labours.now.items c.work_rest_by_last.new.labours.items c.in_ok-left.left.items
    record { ended = k; drew = c.finish-drawn.ensures.numbers; whole = c.finish-drawn.ensures.whole k.ended; offers = c.finish-rest.ensures.offered; takes = c.finish-rest.ensures.taken; worked = c.in_ok-left.ensures.worked }
    x

pub returns-clause-numbers : goal.returns-clause-numbers
returns-clause-numbers g c =
    let see = λ (l : g.row.L.Denot). labour_view (g.L.Labour.about l) (g.L.Labour.loaded l) (g.L.Labour.results l) (g.L.Labour.failures l) in
    let k = c.requires.ended c.if-not-complete.false in
    in_order g.T.Numbered.number_of g.L.Out.Numbered.number_of g.L.Labour.right g.L.Labour.failed g.L.Labour.fits see
    c.args.claims.count c.args.claims c.args.hand c.args.parts.seats.items c.args.parts.passes.items (map lists_of c.args.parts.receipts.items)
    c.finish-drawn.result c.finish-rest.result c.args.labours.now.items c.work_rest_by_last.new.labours.items c.in_ok-left.left.items
    record { ended = k; drew = c.finish-drawn.ensures.numbers; whole = c.finish-drawn.ensures.whole k.ended; offers = c.finish-rest.ensures.offered; takes = c.finish-rest.ensures.taken; worked = c.in_ok-left.ensures.worked }
    c.in_ok-outs.outs.items c.in_ok-outs.ensures.same c.in_ok-outs.ensures.order

pub returns-clause-fair : goal.returns-clause-fair
returns-clause-fair g c = λ a all.
    let see = λ (l : g.row.L.Denot). labour_view (g.L.Labour.about l) (g.L.Labour.loaded l) (g.L.Labour.results l) (g.L.Labour.failures l) in
    let k = c.requires.ended c.if-not-complete.false in
    let failures = same_sum (λ (n : ℕ). n) g.L.Labour.failures c.outcomes.new.labours.items c.work_rest_by_last.new.labours.items c.in_ok-outs.ensures.failures in
    subst (λ (n : ℕ). All (IsFair g.L.Labour.right g.L.Labour.failed g.L.Labour.fits a n) c.in_ok-outs.outs.items) (sym failures)
    (all_fair g.T.Numbered.number_of g.L.Out.Numbered.number_of g.L.Labour.right g.L.Labour.failed g.L.Labour.fits see
    c.args.claims.count c.args.claims c.args.hand c.args.parts.seats.items c.args.parts.passes.items (map lists_of c.args.parts.receipts.items)
    c.finish-drawn.result c.finish-rest.result c.args.labours.now.items c.work_rest_by_last.new.labours.items c.in_ok-left.left.items
    record { ended = k; drew = c.finish-drawn.ensures.numbers; whole = c.finish-drawn.ensures.whole k.ended; offers = c.finish-rest.ensures.offered; takes = c.finish-rest.ensures.taken; worked = c.in_ok-left.ensures.worked }
    c.in_ok-outs.outs.items c.in_ok-outs.ensures.same g.row.T.coded a all)
