-- Whole runs: how they begin, what every state keeps, and what is left at the end.
use Rattle.std.proofs.Common.{◌≡◌, ℕ, ◌*◌, ◌<◌, ◌≤◌, List, [], ◌∷◌, length, get_or, arith, Option, None, replicate, ap, subst, sym, refl, ◌∙◌, sum_by, All, Bool, true, false}
use Rattle.std.proofs.lemmas.List.{length-replicate, get_or-replicate}
use Rattle.std.proofs.lemmas.List.Sums.{sum_by-le}
use Rattle.std.proofs.lemmas.List.Folds.{sum_by-replicate}
use Rattle.std.proofs.lemmas.List.Elements.{All-from_get_or}
use Rattle.run_core.specs.Counts.{times, once_below}
use Rattle.run_core.specs.Receipts.{Lists, no_lists, total, OffersOwn, FinishesOwn, IsBalanced}
use Rattle.run_core.specs.Machine.{Machine, start, after, Leads, held_list, KeepsOwn, Keeps, IsOver}
use Rattle.run_core.specs.Memory.{Does}
use Rattle.run_core.specs.declared.event.Event.{Event}
use Rattle.run_core.specs.declared.event.Held.{Held}
use Rattle.run_core.proofs.Counting.{once_none}
use Rattle.run_core.proofs.Steps.{after_keeps}

-- no worker has anything
none_yet : (list : Lists → List ℕ) (x workers : ℕ) → times x (list no_lists) ≡ 0 → total list x (replicate workers no_lists) ≡ 0
none_yet list x workers none = omega (arith, sum_by-replicate (λ r. times x (list r)) workers no_lists, ap (λ (k : ℕ). workers * k) none)

-- no worker holds anything
abbrev nothing : Option Held
nothing = None

own_nothing : (workers w : ℕ) → w < length (replicate workers nothing) → KeepsOwn (get_or (replicate workers nothing) w None) (get_or (replicate workers no_lists) w no_lists)
own_nothing workers w in' =
    let there : w < workers = omega (arith, length-replicate workers nothing) in
    let a = get_or-replicate workers w nothing None there in
    let b = get_or-replicate workers w no_lists no_lists there in
    subst (λ (p : Option Held × Lists). KeepsOwn p.0 p.1) (λ i. (sym a i, sym b i)) record { offers_own = λ x. omega arith; finishes_own = λ x. refl }

pub start_keeps : (n workers bound : ℕ) → Keeps (start n workers bound)
start_keeps n workers bound = record {
  workers = length-replicate workers None ∙ sym (length-replicate workers no_lists);
  claims_within = omega arith;
  queue_within = omega arith;
  claimed_once = λ x. none_yet (λ r. r.claimed) x workers refl ∙ sym (once_none x);
  passed_on = λ x. omega (arith, none_yet (λ r. r.offered) x workers refl, none_yet (λ r. r.taken) x workers refl);
  finished_once = λ x. omega (arith, none_yet (λ r. r.finished) x workers refl, sum_by-replicate (λ h. times x (held_list h)) workers None, once_none x);
  own = own_nothing workers;
}

pub leads_keeps : (m : Machine) (events : List Event) (end : Machine) → Leads m events end → Keeps m → Keeps end
leads_keeps m [] end is k = subst Keeps is k
leads_keeps m (e ∷ es) end steps k = leads_keeps (after m e) es end steps.1 (after_keeps m e k steps.0)

-- an event that was tried keeps it too
pub does_keeps : (done : Bool) (e : Event) (old new : Machine) → Does done e old new → Keeps old → Keeps new
does_keeps true e old new d k = subst Keeps (sym d.1) (after_keeps old e k d.0)
does_keeps false e old new d k = subst Keeps (sym d.1) k

-- nothing is held
none_held : (x : ℕ) (hs : List (Option Held)) → All (λ h. h ≡ None) hs → sum_by (λ h. times x (held_list h)) hs ≡ 0
none_held x hs none =
    let short : sum_by (λ h. times x (held_list h)) hs ≤ length hs * 0 = sum_by-le (λ h. times x (held_list h)) 0 hs (λ k d in'. omega (arith, ap (λ h. times x (held_list h)) (none k d in'))) in
    omega arith

pub over_balanced : (m : Machine) → Keeps m → IsOver m → IsBalanced m.count m.receipts m.queue
over_balanced m k over =
    let own : (w : ℕ) → w < length m.receipts → KeepsOwn None (get_or m.receipts w no_lists) = λ w in'. subst (λ h. KeepsOwn h (get_or m.receipts w no_lists)) (over.1 w None (omega (arith, k.workers))) (k.own w (omega (arith, k.workers))) in
    record {
      claimed_once = λ x. k.claimed_once x ∙ ap (once_below x) over.0;
      passed_on = k.passed_on;
      offers_own = All-from_get_or OffersOwn m.receipts no_lists (λ w in'. λ x. omega (arith, (own w in').offers_own x));
      finishes_own = All-from_get_or FinishesOwn m.receipts no_lists (λ w in'. λ x. omega (arith, (own w in').finishes_own x));
      finished_once = λ x. omega (arith, k.finished_once x, none_held x m.held over.1, ap (once_below x) over.0);
    }
