-- What a worker's run shows of a worker that was ready.
use Rattle.std.proofs.Common.{◌≡◌, ℕ, true, List, [], ◌++◌, map, All, ap, ◌∙◌, sym, subst}
use Rattle.run_core.specs.Receipts.{Lists, OffersOwn, FinishesOwn}
use Rattle.scan_claims.specs.Claims.{SeatView}
use Rattle.hand_off.specs.Hand.{PassView}
use Rattle.hand_off.specs.Work.{Gained, IsSound, IsWorked}
use Rattle.crew.specs.Labours.{LabourView}
use Rattle.crew.specs.Workers.{Shows}

-- what a list gained from nothing is all that it has
pub all_gained : {X : Type 0} (old new more : List X) → old ≡ [] → new ≡ old ++ more → more ≡ new
all_gained old new more none e = sym (e ∙ ap (λ xs. xs ++ more) none)

-- a receipt that has what was gained from nothing shows what is there
pub shows : {T Out About : Type 0} (item_number : T → ℕ) (out_number : Out → ℕ) (right failed : About → T → Type 0) (fits : About → T → Out → Type 0)
    (old_seat seat : SeatView) (old_pass pass : PassView T) (before now : LabourView Out About) (r : Lists)
    → old_seat.numbers ≡ [] → old_pass.offered ≡ [] → old_pass.taken ≡ [] → before.loaded ≡ [] → before.results ≡ [] → before.failures ≡ 0 → now.about ≡ before.about
    → seat.ended ≡ true → seat.numbers ≡ old_seat.numbers ++ r.claimed → now.loaded ≡ before.loaded ++ r.claimed
    → Gained old_pass.offered pass.offered (λ items. (r.offered ≡ map item_number items) × All (IsSound right failed before.about before.failures now.failures) items)
    → Gained old_pass.taken pass.taken (λ items.
    (r.taken ≡ map item_number items)
    × Gained before.results now.results (λ outs. (r.finished ≡ map out_number outs) × All (IsWorked right failed fits before.about items before.failures now.failures) outs))
    → OffersOwn r → FinishesOwn r
    → Shows item_number out_number right failed fits seat pass now r
shows {T} {Out} {About} item_number out_number right failed fits old_seat seat old_pass pass before now r numbers offered taken loaded results failures about ended claimed now_loaded o t own finish =
    let numbers' = all_gained _ _ _ numbers claimed in
    let offered' = all_gained _ _ _ offered o.1 in
    let taken' = all_gained _ _ _ taken t.1 in
    let results' = all_gained _ _ _ results t.2.1.1 in
    record {
      ended = ended;
      claimed = numbers';
      loaded = sym (all_gained _ _ _ loaded now_loaded) ∙ numbers';
      offered = o.2.0 ∙ ap (map item_number) offered';
      taken = t.2.0 ∙ ap (map item_number) taken';
      finished = t.2.1.2.0 ∙ ap (map out_number) results';
      sound = subst (λ (q : About × ℕ × List T). All (IsSound right failed q.0 q.1 now.failures) q.2) (λ i. (sym about i, failures i, offered' i)) o.2.1;
      worked = subst (λ (q : About × List T × ℕ × List Out). All (IsWorked right failed fits q.0 q.1 q.2 now.failures) q.3) (λ i. (sym about i, taken' i, failures i, results' i)) t.2.1.2.1;
      offers_own = own;
      finishes_own = finish;
    }
