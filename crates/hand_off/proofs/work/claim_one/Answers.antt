use Rattle.std.proofs.Common.{sym, ◌∙◌, refl, arith, ap, subst, ◌++◌, ◌∷◌, []}
use Rattle.run_core.specs.Receipts.{lists_of}
use Rattle.run_core.specs.declared.receipt.Receipt.{Receipt}
use Rattle.hand_off.specs.Work.{point}
use Rattle.hand_off.proofs.Gains.{err_holds, still, offers_one, keeps_one, rose_later}
use Rattle.std.proofs.lemmas.List.{append-nil}
use Rattle.hand_off.proofs.Notes.{note_kept, note_offered}
use Rattle.hand_off.proofs.work.claim_one.Goals as goal

pub returns-in_default-clause-came : goal.returns-in_default-clause-came
returns-in_default-clause-came g c = λ start k.
    let e = c.in_default.ensures in
    still _ _ _ _ _ start c.args.seat.now c.claim.new.seat c.args.pass.now c.args.pass.now _ _ _ _ (lists_of c.args.receipt.now) (lists_of c.reserve.new.self) 0 e.seat.0 e.seat.1 e.none.0 refl c.reserve.ensures.lists k

pub returns-in-Err-clause-came : goal.returns-in-Err-clause-came
returns-in-Err-clause-came g c = λ start k.
    let t = c.in-Some.ensures in
    let l = c.in_ok-item.ensures in
    let o = c.in-Err.ensures in
    let w = c.in_ok-work_item.ensures in
    let item = c.in_ok-item.item in
    let fit = subst (λ a. g.L.Labour.fits a c.in-Err.item w.worked.0) l.about w.worked.2 in
    keeps_one _ _ _ _ _ g.met.L.Labour.same_number c.args.hand.now.capacity start _ _ c.in-Some.ticket item w.worked.0 k
    record {
      seat = (t.seat.0, t.seat.1);
      numbers = t.drawn;
      pass = o.refused.0;
      about = w.about ∙ l.about;
      loaded = w.loaded ∙ l.loaded;
      results = w.worked.1 ∙ ap (λ xs. xs ++ w.worked.0 ∷ []) l.results;
      failures = omega (arith, l.failures, w.failures);
      number = l.number;
      sound = (l.right, λ failed. rose_later _ _ _ _ (omega arith) w.failures (l.failed failed));
      fit = subst (λ x. g.L.Labour.fits (g.L.Labour.about c.args.labour.now) x w.worked.0) o.back fit;
      receipt = note_kept (lists_of c.args.receipt.now) (lists_of c.reserve.new.self) (lists_of c.work_item.new.receipt) c.push_reserved.new.self.items c.number-number.result _ c.in-Some.ticket c.reserve.ensures.lists c.push_reserved.ensures.items c.number-number.ensures (ap g.T.Numbered.number_of o.back ∙ l.number) (w.noted ∙ ap (λ (r : Receipt). record (lists_of r) { finished = r.finished.items ++ g.T.Numbered.number_of c.in-Err.item ∷ [] }) o.refused.1);
      room = o.full.0;
      full = o.full.1;
    }

pub returns-in_err-take_one-clause-holds : goal.returns-in_err-take_one-clause-holds
returns-in_err-take_one-clause-holds g c =
    let t = c.in-Some.ensures in
    let l = c.in_ok-item.ensures in
    let o = c.in_default-offer_one.ensures in
    let before = point c.args.seat.now c.args.pass.now (g.L.Labour.about c.args.labour.now) (g.L.Labour.loaded c.args.labour.now) (g.L.Labour.results c.args.labour.now) (g.L.Labour.failures c.args.labour.now) (lists_of c.args.receipt.now) in
    err_holds _ before _ _ (c.in_err-take_one.ensures.holds c.claim.new.seat)
    record {
      seat = (t.seat.0, t.seat.1);
      pass = (o.pass.0, o.pass.1);
      about = l.about;
      numbers = (c.in-Some.ticket ∷ [], t.drawn);
      offered = (c.in_ok-item.item ∷ [], o.offered);
      taken = ([], o.pass.2 ∙ sym (append-nil _));
      loaded = (c.in-Some.ticket ∷ [], l.loaded);
      results = ([], l.results ∙ sym (append-nil _));
      failures = l.failures;
    }

pub returns-clause-came : goal.returns-clause-came
returns-clause-came g c = λ start k.
    let t = c.in-Some.ensures in
    let l = c.in_ok-item.ensures in
    let o = c.in_default-offer_one.ensures in
    let item = c.in_ok-item.item in
    let offered = offers_one _ _ _ _ _ start _ _ c.in-Some.ticket item k
    record {
      seat = (t.seat.0, t.seat.1);
      numbers = t.drawn;
      pass = (o.pass.0, o.pass.1);
      offered = o.offered;
      taken = o.pass.2;
      about = l.about;
      loaded = l.loaded;
      results = l.results;
      failures = l.failures;
      number = l.number;
      sound = (l.right, l.failed);
      receipt = note_offered (lists_of c.args.receipt.now) (lists_of c.reserve.new.self) (lists_of c.offer_one.new.receipt) c.push_reserved.new.self.items c.number-number.result c.in-Some.ticket c.reserve.ensures.lists c.push_reserved.ensures.items c.number-number.ensures o.noted;
    } in
    c.in_ok-take_one.ensures.came c.claim.new.seat start 1 (omega arith) offered
