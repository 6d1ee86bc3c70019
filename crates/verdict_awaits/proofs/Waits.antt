-- What holds after a check: of the value that it gives, of the nodes that it numbers, and of the holes of the subqueries that it does.
use Rattle.std.proofs.Common.{◌≡◌, ◌∙◌, ◌≤◌, ◌<◌, ℕ, ◌+◌, List, [], ◌∷◌, ◌++◌, length, Bool, true, false, Option, Some, None, Result, Ok, Err, map, refl, sym, ap, subst, arith}
use Rattle.std.specs.List.{AllByRecursion, flat_map}
use Rattle.std.proofs.lemmas.List.{append-nil, append_assoc, length-append}
use Rattle.plan_typed.specs.declared.sub.Sub.{Sub}
use Rattle.well_typed.specs.WellTyped.{MayBe}
use Rattle.denote_typed.specs.Holes.{Slot}
use Rattle.plan_verdict.specs.declared.progress.Progress.{Progress}
use Rattle.plan_verdict.specs.declared.rule.Rule.{Rule}
use Rattle.plan_verdict.specs.Checking.{Checking, Refusal, go_on, ◌>>=◌, ◌>>◌, accept, refuse, part, must, present, in_order}
use Rattle.plan_verdict.proofs.Sound.{Given, AllOf}
use Rattle.verdict_awaits.proofs.Parts.{Part, nothing, joined, with_slots, same_part, joined_assoc, joined_nothing, Fits, fits_nothing, fits_both}

-- after a check that gives a value: a relation's part so far is what it was, and then what is added
pub record After {A : Type 0} (relation : ℕ) (loose : A → Sub → Type 0) (known : A → Type 0) (state : A → Part) (start : Part) (before : Progress) (value : A) (after : Progress) : Type 0 where
  pub is : known value
  pub added : Part
  pub done : List Sub
  pub state_is : state value ≡ joined start added
  pub subs_are : after.subs ≡ before.subs ++ done
  pub nodes_are : after.nodes ≡ before.nodes + length added.slots
  pub more : before.relations ≤ after.relations
  pub fits : Fits relation (loose value) before.relations after.relations before.nodes added done

abbrev pub Found : {A : Type 0} (relation : ℕ) (loose : A → Sub → Type 0) (known : A → Type 0) (state : A → Part) (start : Part) (before : Progress) → Result (A × Progress) Refusal → Type 0
Found relation loose known state start before (Ok (value, after)) = After relation loose known state start before value after
Found relation loose known state start before (Err refusal) = Unit {0}

-- a check among those of a relation, which has its number before it
pub record Waits {A : Type 0} (relation : ℕ) (loose : A → Sub → Type 0) (known : A → Type 0) (state : A → Part) (start : Part) (check : Checking A) : Type 0 where
  pub at : (before : Progress) → relation < before.relations → Found relation loose known state start before (check before)

-- no hole is left loose
abbrev pub none : {A : Type 0} → A → Sub → Type 0
none value sub = ⊥

-- nothing is known
abbrev pub Any : {A : Type 0} → A → Type 0
Any value = Unit {0}

extended : {A B : Type 0} (relation : ℕ) (known : A → Type 0) (state : A → Part) (start : Part) (loose : B → Sub → Type 0) (Q : B → Type 0) (state' : B → Part) (before : Progress) (value : A) (after : Progress) (r : Result (B × Progress) Refusal)
    → relation < before.relations → After relation none known state start before value after → Found relation loose Q state' (state value) after r → Found relation loose Q state' start before r
extended relation known state start loose Q state' before value after (Ok (last, end)) low f g =
    record {
      is = g.is;
      added = joined f.added g.added;
      done = f.done ++ g.done;
      state_is = g.state_is ∙ ap (λ part. joined part g.added) f.state_is ∙ joined_assoc start f.added g.added;
      subs_are = g.subs_are ∙ ap (λ subs. subs ++ g.done) f.subs_are ∙ append_assoc before.subs f.done g.done;
      nodes_are = omega (arith, f.nodes_are, g.nodes_are, length-append f.added.slots g.added.slots);
      more = omega (arith, f.more, g.more);
      fits = fits_both relation (loose last) before.relations after.relations end.relations before.nodes low f.more g.more f.added g.added f.done g.done f.fits
          (subst (λ first. Fits relation (loose last) after.relations end.relations first g.added g.done) f.nodes_are g.fits);
    }
extended relation known state start loose Q state' before value after (Err refusal) low f g = tt

then_at : {A B : Type 0} (relation : ℕ) (known : A → Type 0) (state : A → Part) (start : Part) (loose : B → Sub → Type 0) (Q : B → Type 0) (state' : B → Part) (before : Progress) (next : A → Checking B) (r : Result (A × Progress) Refusal)
    → relation < before.relations → Found relation none known state start before r → ((value : A) → known value → Waits relation loose Q state' (state value) (next value)) → Found relation loose Q state' start before (go_on r next)
then_at relation known state start loose Q state' before next (Ok (value, after)) low f k =
    extended relation known state start loose Q state' before value after (next value after) low f ((k value f.is).at after (omega (arith, low, f.more)))
then_at relation known state start loose Q state' before next (Err refusal) low f k = tt

-- one check after the other
pub then : {A B : Type 0} {relation : ℕ} {known : A → Type 0} {state : A → Part} {start : Part} {loose : B → Sub → Type 0} {Q : B → Type 0} {state' : B → Part} {first : Checking A} {next : A → Checking B}
    → Waits relation none known state start first → ((value : A) → known value → Waits relation loose Q state' (state value) (next value)) → Waits relation loose Q state' start (first >>= next)
then {relation = relation} {known = known} {state = state} {start = start} {loose = loose} {Q = Q} {state' = state'} {first = first} {next = next} s k =
    record { at = λ before low. then_at relation known state start loose Q state' before next (first before) low (s.at before low) k }

pub and_then : {A B : Type 0} {relation : ℕ} {known : A → Type 0} {state : A → Part} {start : Part} {loose : B → Sub → Type 0} {Q : B → Type 0} {state' : B → Part} {first : Checking A} {next : Checking B}
    → Waits relation none known state start first → ((value : A) → known value → Waits relation loose Q state' (state value) next) → Waits relation loose Q state' start (first >> next)
and_then {relation = relation} {known = known} {state = state} {start = start} {loose = loose} {Q = Q} {state' = state'} {first = first} {next = next} s k =
    record { at = λ before low. then_at relation known state start loose Q state' before (λ _. next) (first before) low (s.at before low) k }

-- nothing is done
pub after_none : {A : Type 0} (relation : ℕ) (loose : A → Sub → Type 0) (known : A → Type 0) (state : A → Part) (start : Part) (before after : Progress) (value : A) → known value → state value ≡ start
    → after.subs ≡ before.subs → after.nodes ≡ before.nodes → before.relations ≤ after.relations → After relation loose known state start before value after
after_none relation loose known state start before after value p same subs nodes more = record {
  is = p;
  added = nothing;
  done = [];
  state_is = same ∙ joined_nothing start;
  subs_are = subs ∙ sym (append-nil before.subs);
  nodes_are = omega (arith, nodes);
  more = more;
  fits = fits_nothing relation (loose value) before.relations after.relations before.nodes;
}

pub accepted : {A : Type 0} (relation : ℕ) (loose : A → Sub → Type 0) (known : A → Type 0) (state : A → Part) (start : Part) (value : A) → known value → state value ≡ start → Waits relation loose known state start (accept value)
accepted relation loose known state start value p same = record { at = λ before low. after_none relation loose known state start before before value p same refl refl (omega arith) }

pub refused : {A : Type 0} (relation : ℕ) (loose : A → Sub → Type 0) (known : A → Type 0) (state : A → Part) (start : Part) (number : ℕ) (rule : Rule) → Waits relation loose known state start (refuse number rule)
refused relation loose known state start number rule = record { at = λ before low. tt }

-- a check that numbers no node and does no subquery
abbrev pub Still : {A : Type 0} → ℕ → (A → Type 0) → Checking A → Type 0
Still relation known check = (start : Part) → Waits relation none known (λ _. start) start check

pub parted_with : {A : Type 0} (relation : ℕ) (loose : A → Sub → Type 0) (P : A → Type 0) (number : ℕ) (found : Result A Rule) → Given P found → (start : Part) → Waits relation loose P (λ _. start) start (part number found)
parted_with relation loose P number (Ok value) p start = accepted relation loose P (λ _. start) start value p refl
parted_with relation loose P number (Err rule) p start = refused relation loose P (λ _. start) start number rule

pub parted : {A : Type 0} (relation : ℕ) (P : A → Type 0) (number : ℕ) (found : Result A Rule) → Given P found → Still relation P (part number found)
parted relation P number found p = parted_with relation none P number found p

pub tested : (relation number : ℕ) (test : Bool) (rule : Rule) → Still relation (λ _. test ≡ true) (must number test rule)
tested relation number true rule start = accepted relation none (λ _. true ≡ true) (λ _. start) start tt refl refl
tested relation number false rule start = refused relation none (λ _. false ≡ true) (λ _. start) start number rule

pub found : {A : Type 0} (relation : ℕ) (P : A → Type 0) (number : ℕ) (written : Option A) → MayBe P written → Still relation P (present number written)
found relation P number (Some value) p start = accepted relation none P (λ _. start) start value p refl
found relation P number None p start = refused relation none P (λ _. start) start number _

-- a check that numbers the nodes of its value
abbrev pub Grows : {A : Type 0} → ℕ → (A → Type 0) → (A → List Slot) → Checking A → Type 0
Grows relation known slots check = (start : Part) → Waits relation none known (λ value. with_slots start (slots value)) start check

-- each of them in order
module _ {A : Type 0} (relation : ℕ) (known : A → Type 0) (slots : A → List Slot) where
  pub ordered : (checks : List (Checking A)) → AllByRecursion (Grows relation known slots) checks → Grows relation (AllOf known (length checks)) (flat_map slots) (in_order checks)
  ordered [] all start = accepted relation none (AllOf known 0) (λ values. with_slots start (flat_map slots values)) start [] (tt, refl) (same_part (with_slots start []) start (append-nil start.slots) refl)
  ordered (first ∷ rest) all start =
      then (all.0 start) (λ value p.
      then (ordered rest all.1 (with_slots start (slots value))) (λ values ps.
      accepted relation none (AllOf known (length (first ∷ rest))) (λ values. with_slots start (flat_map slots values)) (with_slots (with_slots start (slots value)) (flat_map slots values)) (value ∷ values) ((p, ps.0), omega (arith, ps.1))
      (same_part (with_slots start (slots value ++ flat_map slots values)) (with_slots (with_slots start (slots value)) (flat_map slots values)) (sym (append_assoc start.slots (slots value) (flat_map slots values))) refl)))

  pub mapped : {X : Type 0} (C : X → Type 0) (f : X → Checking A) (xs : List X) → AllByRecursion C xs → ((x : X) → C x → Grows relation known slots (f x)) → AllByRecursion (Grows relation known slots) (map f xs)
  mapped C f [] all k = tt
  mapped C f (x ∷ xs) all k = (k x all.0, mapped C f xs all.1 k)

  length_mapped : {X Y : Type 0} (f : X → Y) (xs : List X) → length (map f xs) ≡ length xs
  length_mapped f [] = refl
  length_mapped f (x ∷ xs) = omega (arith, length_mapped f xs)

  pub each_grows : {X : Type 0} (C : X → Type 0) (f : X → Checking A) (xs : List X) → AllByRecursion C xs → ((x : X) → C x → Grows relation known slots (f x)) → Grows relation (AllOf known (length xs)) (flat_map slots) (in_order (map f xs))
  each_grows C f xs all k = subst (λ n. Grows relation (AllOf known n) (flat_map slots) (in_order (map f xs))) (length_mapped f xs) (ordered (map f xs) (mapped C f xs all k))

-- the same said otherwise
restated_at : {A : Type 0} (relation : ℕ) (loose : A → Sub → Type 0) (P Q : A → Type 0) (state state' : A → Part) (start : Part) (before : Progress) (r : Result (A × Progress) Refusal)
    → ((value : A) → P value → Q value × (state' value ≡ state value)) → Found relation loose P state start before r → Found relation loose Q state' start before r
restated_at relation loose P Q state state' start before (Ok (value, after)) k f =
    record { is = (k value f.is).0; added = f.added; done = f.done; state_is = (k value f.is).1 ∙ f.state_is; subs_are = f.subs_are; nodes_are = f.nodes_are; more = f.more; fits = f.fits }
restated_at relation loose P Q state state' start before (Err refusal) k f = tt

pub restated : {A : Type 0} (relation : ℕ) (loose : A → Sub → Type 0) (P Q : A → Type 0) (state state' : A → Part) (start : Part) (check : Checking A)
    → ((value : A) → P value → Q value × (state' value ≡ state value)) → Waits relation loose P state start check → Waits relation loose Q state' start check
restated relation loose P Q state state' start check k s = record { at = λ before low. restated_at relation loose P Q state state' start before (check before) k (s.at before low) }

-- the nodes of a value, spelled otherwise
pub respelled : {A : Type 0} (relation : ℕ) (known : A → Type 0) (slots slots' : A → List Slot) (check : Checking A) → ((value : A) → slots' value ≡ slots value) → Grows relation known slots check → Grows relation known slots' check
respelled relation known slots slots' check same s start =
    restated relation none known known (λ value. with_slots start (slots value)) (λ value. with_slots start (slots' value)) start check (λ value p. (p, ap (with_slots start) (same value))) (s start)
