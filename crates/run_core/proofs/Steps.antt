-- Each event keeps what every state keeps.
use Rattle.std.proofs.Common.{◌≡◌, ℕ, ◌+◌, ◌<◌, List, [], ◌∷◌, ◌++◌, length, set, get_or, drop, arith, Option, Some, None, ap, subst, sym, ◌∙◌, sum_by, inl, inr}
use Rattle.std.proofs.lemmas.List.{drop_more, length-append, length-set, get_or-set_same, get_or-set_other, set-get_or}
use Rattle.std.proofs.lemmas.List.Sums.{sum_by-set}
use Rattle.std.proofs.lemmas.Option.{get_or_from_slice_get, slice_get_within}
use Rattle.std.proofs.lemmas.Bool.{cases_eq}
use Rattle.run_core.specs.Counts.{times}
use Rattle.run_core.specs.Receipts.{Lists, no_lists, total}
use Rattle.run_core.specs.Machine.{Machine, IsAllowed, HoldsFresh, HoldsDue, after, held_by, receipt_of, number_of, number_in, held_list, KeepsOwn, Keeps}
use Rattle.run_core.specs.declared.event.Event.{Event}
use Rattle.run_core.specs.declared.event.Event.TheVariants.{Claim, Put, Refuse, Take, Finish}
use Rattle.run_core.specs.declared.event.Held.{Held}
use Rattle.run_core.specs.declared.event.Held.TheVariants.{Fresh, Due}
use Rattle.run_core.proofs.Counting.{times_push, times_cons, once_more}

-- the total of one list once the receipt of a worker is changed
total_set : (list : Lists → List ℕ) (x : ℕ) (rs : List Lists) (w : ℕ) (r : Lists) → w < length rs → total list x (set rs w r) + times x (list (get_or rs w no_lists)) ≡ total list x rs + times x (list r)
total_set list x rs w r there = sum_by-set (λ l. times x (list l)) rs w r no_lists there

held_set : (x : ℕ) (hs : List (Option Held)) (w : ℕ) (h : Option Held) → w < length hs
    → sum_by (λ g. times x (held_list g)) (set hs w h) + times x (held_list (get_or hs w None)) ≡ sum_by (λ g. times x (held_list g)) hs + times x (held_list h)
held_set x hs w h there = sum_by-set (λ g. times x (held_list g)) hs w h None there

own_set : (hs : List (Option Held)) (rs : List Lists) (w : ℕ) (h : Option Held) (r : Lists) → length hs ≡ length rs → w < length hs → KeepsOwn h r
    → ((v : ℕ) → v < length hs → KeepsOwn (get_or hs v None) (get_or rs v no_lists))
    → (v : ℕ) → v < length (set hs w h) → KeepsOwn (get_or (set hs w h) v None) (get_or (set rs w r) v no_lists)
own_set hs rs w h r same there mine others v in' =
    elim (cases_eq v w) as (λ _. KeepsOwn (get_or (set hs w h) v None) (get_or (set rs w r) v no_lists)) [
      | inl e ↦
          let a : get_or (set hs w h) v None ≡ h = ap (λ (i : ℕ). get_or (set hs w h) i None) e ∙ get_or-set_same hs w h None there in
          let b : get_or (set rs w r) v no_lists ≡ r = ap (λ (i : ℕ). get_or (set rs w r) i no_lists) e ∙ get_or-set_same rs w r no_lists (omega (arith, same)) in
          subst (λ (p : Option Held × Lists). KeepsOwn p.0 p.1) (λ i. (sym a i, sym b i)) mine
      | inr ne ↦
          let a : get_or (set hs w h) v None ≡ get_or hs v None = get_or-set_other hs w v h None ne in
          let b : get_or (set rs w r) v no_lists ≡ get_or rs v no_lists = get_or-set_other rs w v r no_lists ne in
          subst (λ (p : Option Held × Lists). KeepsOwn p.0 p.1) (λ i. (sym a i, sym b i)) (others v (omega (arith, length-set hs w h)))
    ]

-- what a claim leaves
pub claim_keeps : (m : Machine) (w : ℕ) → Keeps m → IsAllowed m (Claim w) → Keeps (after m (Claim w))
claim_keeps m w k allowed =
    let there = slice_get_within m.held w None allowed.0 in
    let there' : w < length m.receipts = omega (arith, k.workers) in
    let was : held_by m w ≡ None = get_or_from_slice_get m.held w None None allowed.0 in
    let r : Lists = receipt_of m w in
    let own : KeepsOwn None r = subst (λ h. KeepsOwn h r) was (k.own w there) in
    let h : Option Held = Some (Fresh m.next) in
    let new : Lists = record r { claimed = r.claimed ++ m.next ∷ [] } in
    record {
      workers = omega (arith, k.workers, length-set m.held w h, length-set m.receipts w new);
      claims_within = omega (arith, allowed.1);
      queue_within = k.queue_within;
      claimed_once = λ x. omega (arith, k.claimed_once x, total_set (λ l. l.claimed) x m.receipts w new there', times_push x r.claimed m.next, once_more x m.next);
      passed_on = λ x. omega (arith, k.passed_on x, total_set (λ l. l.offered) x m.receipts w new there', total_set (λ l. l.taken) x m.receipts w new there');
      finished_once = λ x. omega (arith, k.finished_once x, total_set (λ l. l.finished) x m.receipts w new there', held_set x m.held w h there, ap (λ g. times x (held_list g)) was, once_more x m.next);
      own = own_set m.held m.receipts w h new k.workers there record {
        offers_own = λ x. omega (arith, own.offers_own x, times_push x r.claimed m.next);
        finishes_own = λ x. omega (arith, own.offers_own x, own.finishes_own x, times_push x r.claimed m.next);
      } k.own;
    }

-- the number that a worker holds fresh, or due
fresh_is : (m : Machine) (w : ℕ) → HoldsFresh m w → held_by m w ≡ Some (Fresh (number_of m w))
fresh_is m w holds =
    let was : held_by m w ≡ Some (Fresh holds.0) = get_or_from_slice_get m.held w (Some (Fresh holds.0)) None holds.1 in
    was ∙ ap (λ (h : Option Held). Some (Fresh (number_in h))) (sym was)

due_is : (m : Machine) (w : ℕ) → HoldsDue m w → held_by m w ≡ Some (Due (number_of m w))
due_is m w holds =
    let was : held_by m w ≡ Some (Due holds.0) = get_or_from_slice_get m.held w (Some (Due holds.0)) None holds.1 in
    was ∙ ap (λ (h : Option Held). Some (Due (number_in h))) (sym was)

pub put_keeps : (m : Machine) (w : ℕ) → Keeps m → IsAllowed m (Put w) → Keeps (after m (Put w))
put_keeps m w k allowed =
    let there = slice_get_within m.held w (Some (Fresh allowed.0.0)) allowed.0.1 in
    let there' : w < length m.receipts = omega (arith, k.workers) in
    let n : ℕ = number_of m w in
    let was : held_by m w ≡ Some (Fresh n) = fresh_is m w allowed.0 in
    let r : Lists = receipt_of m w in
    let own : KeepsOwn (Some (Fresh n)) r = subst (λ h. KeepsOwn h r) was (k.own w there) in
    let new : Lists = record r { offered = r.offered ++ n ∷ [] } in
    record {
      workers = omega (arith, k.workers, length-set m.held w None, length-set m.receipts w new);
      claims_within = k.claims_within;
      queue_within = omega (arith, allowed.1, length-append m.queue (n ∷ []));
      claimed_once = λ x. omega (arith, k.claimed_once x, total_set (λ l. l.claimed) x m.receipts w new there');
      passed_on = λ x. omega (arith, k.passed_on x, total_set (λ l. l.offered) x m.receipts w new there', total_set (λ l. l.taken) x m.receipts w new there', times_push x r.offered n, times_push x m.queue n);
      finished_once = λ x. omega (arith, k.finished_once x, total_set (λ l. l.finished) x m.receipts w new there', held_set x m.held w None there, ap (λ g. times x (held_list g)) was, times_push x m.queue n);
      own = own_set m.held m.receipts w None new k.workers there record {
        offers_own = λ x. omega (arith, own.offers_own x, times_push x r.offered n);
        finishes_own = λ x. omega (arith, own.offers_own x, own.finishes_own x, times_push x r.offered n);
      } k.own;
    }

pub refuse_keeps : (m : Machine) (w : ℕ) → Keeps m → IsAllowed m (Refuse w) → Keeps (after m (Refuse w))
refuse_keeps m w k allowed =
    let there = slice_get_within m.held w (Some (Fresh allowed.0.0)) allowed.0.1 in
    let n : ℕ = number_of m w in
    let was : held_by m w ≡ Some (Fresh n) = fresh_is m w allowed.0 in
    let r : Lists = receipt_of m w in
    let h : Option Held = Some (Due n) in
    let own : KeepsOwn (Some (Fresh n)) r = subst (λ g. KeepsOwn g r) was (k.own w there) in
    let others = own_set m.held m.receipts w h r k.workers there record { offers_own = λ x. omega (arith, own.offers_own x); finishes_own = own.finishes_own } k.own in
    let same : set m.receipts w r ≡ m.receipts = set-get_or m.receipts w no_lists in
    record {
      workers = omega (arith, k.workers, length-set m.held w h);
      claims_within = k.claims_within;
      queue_within = k.queue_within;
      claimed_once = k.claimed_once;
      passed_on = k.passed_on;
      finished_once = λ x. omega (arith, k.finished_once x, held_set x m.held w h there, ap (λ g. times x (held_list g)) was);
      own = λ v in'. subst (λ (rs : List Lists). KeepsOwn (get_or (set m.held w h) v None) (get_or rs v no_lists)) same (others v in');
    }

pub take_keeps : (m : Machine) (w : ℕ) → Keeps m → IsAllowed m (Take w) → Keeps (after m (Take w))
take_keeps m w k allowed =
    let there = slice_get_within m.held w None allowed.0 in
    let there' : w < length m.receipts = omega (arith, k.workers) in
    let was : held_by m w ≡ None = get_or_from_slice_get m.held w None None allowed.0 in
    let n : ℕ = get_or m.queue 0 0 in
    let queue : m.queue ≡ n ∷ drop 1 m.queue = drop_more m.queue 0 0 allowed.1 in
    let r : Lists = receipt_of m w in
    let h : Option Held = Some (Due n) in
    let own : KeepsOwn None r = subst (λ g. KeepsOwn g r) was (k.own w there) in
    let new : Lists = record r { taken = r.taken ++ n ∷ [] } in
    let parted : (x : ℕ) → times x m.queue ≡ times x (n ∷ []) + times x (drop 1 m.queue) = λ x. ap (times x) queue ∙ times_cons x n (drop 1 m.queue) in
    record {
      workers = omega (arith, k.workers, length-set m.held w h, length-set m.receipts w new);
      claims_within = k.claims_within;
      queue_within = omega (arith, k.queue_within, ap length queue);
      claimed_once = λ x. omega (arith, k.claimed_once x, total_set (λ l. l.claimed) x m.receipts w new there');
      passed_on = λ x. omega (arith, k.passed_on x, total_set (λ l. l.offered) x m.receipts w new there', total_set (λ l. l.taken) x m.receipts w new there', times_push x r.taken n, parted x);
      finished_once = λ x. omega (arith, k.finished_once x, total_set (λ l. l.finished) x m.receipts w new there', held_set x m.held w h there, ap (λ g. times x (held_list g)) was, parted x);
      own = own_set m.held m.receipts w h new k.workers there record {
        offers_own = own.offers_own;
        finishes_own = λ x. omega (arith, own.finishes_own x, times_push x r.taken n);
      } k.own;
    }

pub finish_keeps : (m : Machine) (w : ℕ) → Keeps m → IsAllowed m (Finish w) → Keeps (after m (Finish w))
finish_keeps m w k allowed =
    let there = slice_get_within m.held w (Some (Due allowed.0)) allowed.1 in
    let there' : w < length m.receipts = omega (arith, k.workers) in
    let n : ℕ = number_of m w in
    let was : held_by m w ≡ Some (Due n) = due_is m w allowed in
    let r : Lists = receipt_of m w in
    let own : KeepsOwn (Some (Due n)) r = subst (λ g. KeepsOwn g r) was (k.own w there) in
    let new : Lists = record r { finished = r.finished ++ n ∷ [] } in
    record {
      workers = omega (arith, k.workers, length-set m.held w None, length-set m.receipts w new);
      claims_within = k.claims_within;
      queue_within = k.queue_within;
      claimed_once = λ x. omega (arith, k.claimed_once x, total_set (λ l. l.claimed) x m.receipts w new there');
      passed_on = λ x. omega (arith, k.passed_on x, total_set (λ l. l.offered) x m.receipts w new there', total_set (λ l. l.taken) x m.receipts w new there');
      finished_once = λ x. omega (arith, k.finished_once x, total_set (λ l. l.finished) x m.receipts w new there', held_set x m.held w None there, ap (λ g. times x (held_list g)) was, times_push x r.finished n);
      own = own_set m.held m.receipts w None new k.workers there record {
        offers_own = own.offers_own;
        finishes_own = λ x. omega (arith, own.finishes_own x, times_push x r.finished n);
      } k.own;
    }

pub after_keeps : (m : Machine) (e : Event) → Keeps m → IsAllowed m e → Keeps (after m e)
after_keeps m (Claim w) = claim_keeps m w
after_keeps m (Put w) = put_keeps m w
after_keeps m (Refuse w) = refuse_keeps m w
after_keeps m (Take w) = take_keeps m w
after_keeps m (Finish w) = finish_keeps m w
