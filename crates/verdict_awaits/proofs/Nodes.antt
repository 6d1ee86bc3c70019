-- A node is numbered before what is inside it, and a hole may be at a node whose kind is known only later.
use Rattle.std.proofs.Common.{◌≡◌, ◌∙◌, ℕ, ◌+◌, suc, List, [], ◌∷◌, ◌++◌, Result, Ok, Err, refl, sym, ap, arith}
use Rattle.std.proofs.lemmas.List.{append-nil}
use Rattle.plan_typed.specs.declared.sub.Sub.{Sub}
use Rattle.plan_typed.specs.Types.{columns_of}
use Rattle.denote_typed.specs.Holes.{Slot, Awaits}
use Rattle.plan_verdict.specs.declared.progress.Progress.{Progress}
use Rattle.plan_verdict.specs.Checking.{Checking, Refusal, ◌>>=◌, accept, next_node, go_on}
use Rattle.verdict_awaits.proofs.Parts.{Part, nothing, joined, with_slots, slots_alone, same_part, weakened, Placed, At, Inside, Loose, quiet}
use Rattle.verdict_awaits.proofs.Waits.{Found, Waits, Grows, none, Any}

-- a hole is at the node with this number, and what is there awaits it
abbrev pub AwaitsOwn : {A : Type 0} → (A → Slot) → ℕ → A → Sub → Type 0
AwaitsOwn own node value sub = (sub.hole.node ≡ node) × Awaits sub.kind (columns_of sub.rel) (own value)

-- a check of what is inside a node
abbrev pub Inner : {A : Type 0} → ℕ → (A → Slot) → (A → List Slot) → ℕ → Checking A → Type 0
Inner relation own rest node check = Waits relation (AwaitsOwn own node) Any (λ value. slots_alone (rest value)) nothing check

module _ {A : Type 0} (relation : ℕ) (own : A → Slot) (rest : A → List Slot) where
  -- a node's own hole is at the first of its nodes
  placed_own : (a b node : ℕ) (value : A) (slots : List Slot) (sub : Sub) → Placed relation a b (node + 1) slots (AwaitsOwn own node value) sub → Placed relation a b node (own value ∷ slots) quiet sub
  placed_own a b node value slots sub (At place slot same at is awaits) = At (suc place) slot same (omega (arith, at)) is awaits
  placed_own a b node value slots sub (Inside from below) = Inside from below
  placed_own a b node value slots sub (Loose same is) = At 0 (own value) same (omega (arith, is.0)) refl is.1

  next_at : (start : Part) (before : Progress) (r : Result (A × Progress) Refusal) → Found relation (AwaitsOwn own before.nodes) Any (λ value. slots_alone (rest value)) nothing (record before { nodes = before.nodes + 1 }) r
      → Found relation none Any (λ value. with_slots start (own value ∷ rest value)) start before r
  next_at start before (Ok (value, after)) f =
      let slots : rest value ≡ f.added.slots = ap (λ (part : Part). part.slots) f.state_is in
      let rels : [] ≡ f.added.rels = ap (λ (part : Part). part.rels) f.state_is in
      let added : Part = record { slots = own value ∷ f.added.slots; rels = f.added.rels } in
      record {
        is = tt;
        added = added;
        done = f.done;
        state_is = same_part (with_slots start (own value ∷ rest value)) (joined start added) (ap (λ l. start.slots ++ (own value ∷ l)) slots) (sym (append-nil start.rels) ∙ ap (λ l. start.rels ++ l) rels);
        subs_are = f.subs_are;
        nodes_are = omega (arith, f.nodes_are);
        more = f.more;
        fits = record {
          inside = f.fits.inside;
          inputs = f.fits.inputs;
          placed = weakened (Placed relation before.relations after.relations (before.nodes + 1) f.added.slots (AwaitsOwn own before.nodes value)) (Placed relation before.relations after.relations before.nodes added.slots quiet) f.done
              (placed_own before.relations after.relations before.nodes value f.added.slots) f.fits.placed;
          in_inputs = f.fits.in_inputs;
          in_later = f.fits.in_later;
        };
      }
  next_at start before (Err refusal) f = tt

  -- a check after the next node has been numbered
  pub next_grows : (check : ℕ → Checking A) → ((node : ℕ) → Inner relation own rest node (check node)) → Grows relation Any (λ value. own value ∷ rest value) (next_node >>= check)
  next_grows check s start = record { at = λ before low. next_at start before (check before.nodes (record before { nodes = before.nodes + 1 })) ((s before.nodes).at (record before { nodes = before.nodes + 1 }) low) }

-- a hole that is loose is at the node that the value gets
module _ {A B : Type 0} (relation : ℕ) (L : A → Sub → Type 0) (L' : B → Sub → Type 0) (P : A → Type 0) (Q : B → Type 0) (state : A → Part) (state' : B → Part) (start : Part) (f : A → B)
    (k : (value : A) → P value → Q (f value) × (state' (f value) ≡ state value) × ((sub : Sub) → L value sub → L' (f value) sub)) where
  placed_then : (a b first : ℕ) (slots : List Slot) (value : A) → P value → (sub : Sub) → Placed relation a b first slots (L value) sub → Placed relation a b first slots (L' (f value)) sub
  placed_then a b first slots value p sub (At place slot same at is awaits) = At place slot same at is awaits
  placed_then a b first slots value p sub (Inside from below) = Inside from below
  placed_then a b first slots value p sub (Loose same is) = Loose same ((k value p).2 sub is)

  made_at : (before : Progress) (r : Result (A × Progress) Refusal) → Found relation L P state start before r → Found relation L' Q state' start before (go_on r (λ value. accept (f value)))
  made_at before (Ok (value, after)) g = record {
    is = (k value g.is).0;
    added = g.added;
    done = g.done;
    state_is = (k value g.is).1 ∙ g.state_is;
    subs_are = g.subs_are;
    nodes_are = g.nodes_are;
    more = g.more;
    fits = record {
      inside = g.fits.inside;
      inputs = g.fits.inputs;
      placed = weakened (Placed relation before.relations after.relations before.nodes g.added.slots (L value)) (Placed relation before.relations after.relations before.nodes g.added.slots (L' (f value))) g.done
          (placed_then before.relations after.relations before.nodes g.added.slots value g.is) g.fits.placed;
      in_inputs = g.fits.in_inputs;
      in_later = g.fits.in_later;
    };
  }
  made_at before (Err refusal) g = tt

  pub then_made : (first : Checking A) → Waits relation L P state start first → Waits relation L' Q state' start (first >>= (λ value. accept (f value)))
  then_made first s = record { at = λ before low. made_at before (first before) (s.at before low) }
