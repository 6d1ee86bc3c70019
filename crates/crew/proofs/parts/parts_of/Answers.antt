use Rattle.std.proofs.Common.{◌≡◌, List, ◌++◌, IsSome, map, reverse, arith, subst, sym, ◌∙◌}
use Rattle.std.proofs.lemmas.List.{append-nil, nil_from_length}
use Rattle.hand_off.proofs.Popping.{pushed_all}
use Rattle.run_core.specs.Receipts.{lists_of}
use Rattle.crew.specs.Workers.{lists_in}
use Rattle.crew.specs.declared.worker.Worker.{Worker}
use Rattle.crew.proofs.Moves.{moved}
use Rattle.crew.proofs.parts.parts_of.Goals as goal

pub loop-worker-preserved : goal.loop-worker-preserved
loop-worker-preserved g c =
    let W = Worker g.row.T.Denot g.row.L.Denot in
    let e = c.in-Some.ensures in
    let i = c.loop-worker.invariant in
    let n = c.note_receipt-complete.ensures in
    record {
      labour_count = omega (arith, e.cases, i.labour_count, c.push_reserved.ensures.len, c.push_reserved.ensures.capacity);
      seat_count = omega (arith, e.cases, i.seat_count, c.push_reserved-in-Some.ensures.len, c.push_reserved-in-Some.ensures.capacity);
      pass_count = omega (arith, e.cases, i.pass_count, c.push_reserved-in-Some-2.ensures.len, c.push_reserved-in-Some-2.ensures.capacity);
      receipt_count = omega (arith, e.cases, i.receipt_count, n.len, n.capacity);
      capacity = c.push_reserved.ensures.capacity ∙ i.capacity;
      labours = moved (λ (w : W). w.labour) _ _ _ _ c.in-Some.worker _ e.items c.push_reserved.ensures.items i.labours;
      seats = moved (λ (w : W). w.seat) _ _ _ _ c.in-Some.worker _ e.items c.push_reserved-in-Some.ensures.items i.seats;
      passes = moved (λ (w : W). w.pass) _ _ _ _ c.in-Some.worker _ e.items c.push_reserved-in-Some-2.ensures.items i.passes;
      receipts = λ all. moved (λ (w : W). lists_in w.receipt) _ _ _ _ c.in-Some.worker _ e.items (n.noted all) (i.receipts (n.before all));
      complete = λ all each. i.complete (n.before all) (pushed_all (λ (w : W). IsSome w.receipt) _ _ c.in-Some.worker e.items each (n.some all));
    }

pub returns-clause-receipts : goal.returns-clause-receipts
returns-clause-receipts g c = λ all.
    let W = Worker g.row.T.Denot g.row.L.Denot in
    let none = nil_from_length c.loop-worker.workers.items (omega (arith, c.in_default.ensures.cases)) in
    sym (append-nil (map lists_of c.loop-worker.receipts.items))
    ∙ subst (λ (ws : List W). map lists_of c.loop-worker.receipts.items ++ reverse (map (λ (w : W). lists_in w.receipt) ws) ≡ reverse (map (λ (w : W). lists_in w.receipt) c.args.workers.items)) none
    (c.loop-worker.invariant.receipts all)
