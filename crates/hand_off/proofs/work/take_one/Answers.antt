use Rattle.std.proofs.Common.{refl}
use Rattle.run_core.specs.Receipts.{lists_of}
use Rattle.hand_off.proofs.Gains.{stays, still, takes_one}
use Rattle.hand_off.proofs.Notes.{note_taken}
use Rattle.hand_off.proofs.work.take_one.Goals as goal

pub returns-in_default-clause-came : goal.returns-in_default-clause-came
returns-in_default-clause-came g c = λ seat start ahead few k.
    let empty = c.in_default.ensures in
    still _ _ _ _ _ start seat seat c.args.pass.now c.take.new.pass _ _ _ _ (lists_of c.args.receipt.now) (lists_of c.reserve.new.self) 0 refl refl refl empty.none c.reserve.ensures.lists
    (stays _ _ _ _ _ start _ ahead k empty.empty)

pub returns-clause-came : goal.returns-clause-came
returns-clause-came g c = λ seat start ahead few k.
    let t = c.in-Some.ensures in
    let w = c.in_ok-work_item.ensures in
    takes_one _ _ _ _ _ g.met.L.Labour.same_number start _ _ c.in-Some.item w.worked.0 ahead few k
    record {
      seat = refl;
      pass = (t.pass.0, t.pass.1);
      offered = t.pass.2;
      taken = t.taken;
      about = w.about;
      loaded = w.loaded;
      results = w.worked.1;
      failures = w.failures;
      fit = w.worked.2;
      receipt = note_taken (lists_of c.args.receipt.now) (lists_of c.reserve.new.self) (lists_of c.work_item.new.receipt) c.push_reserved.new.self.items c.number.result _ c.reserve.ensures.lists c.push_reserved.ensures.items c.number.ensures w.noted;
      was_offered = t.was_offered;
    }
