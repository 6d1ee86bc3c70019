-- Relations are numbered, and the hole of each subquery inside one awaits it there.
use Rattle.std.proofs.Common.{◌≡◌, ◌≤◌, ◌<◌, ℕ, ◌+◌, List, [], ◌∷◌, ◌++◌, Option, Some, None, Result, Ok, Err, map, slice_get, refl, sym, subst, arith}
use Rattle.std.specs.List.{AllByRecursion}
use Rattle.std.proofs.lemmas.List.{append-nil, append_assoc}
use Rattle.plan_typed.specs.declared.rel.Rel.{Rel, out-Rel}
use Rattle.plan_typed.specs.declared.sub.Sub.{Sub}
use Rattle.well_typed.proofs.ValidKinds.{all_both}
use Rattle.well_typed.specs.WellTyped.{MayBe}
use Rattle.denote_typed.specs.Holes.{AwaitsAt, AwaitsIn}
use Rattle.plan_verdict.specs.declared.progress.Progress.{Progress}
use Rattle.plan_verdict.specs.Checking.{Checking, Refusal, go_on, in_order}
use Rattle.plan_verdict.specs.Relation.{numbered, input}
use Rattle.verdict_awaits.proofs.Levels.{part_of, every_rel}
use Rattle.verdict_awaits.proofs.Parts.{Part, nothing, joined, with_rels, same_part, weakened, HasWithin, AreWithin, wider, Placed, At, Inside, Loose, AwaitEachOther, quiet}
use Rattle.verdict_awaits.proofs.Waits.{Found, Waits, none, Any, then, accepted, refused}

-- a relation with this number
abbrev pub HasNumber : ℕ → Rel → Type 0
HasNumber number rel = (out-Rel rel).number ≡ number

-- the check of a relation, by its number, numbers its nodes, and their numbers are from 0 on
abbrev pub IsWaitingRel : (ℕ → Checking Rel) → Type 0
IsWaitingRel relation = (number : ℕ) → Waits number none (HasNumber number) part_of nothing (relation number)

-- the relation that a subquery's hole names is numbered from the first number up to below the second
abbrev HoleWithin : ℕ → ℕ → Sub → Type 0
HoleWithin a b sub = (a ≤ sub.hole.relation) × (sub.hole.relation < b)

-- after a relation is numbered and checked: the subqueries that are done, whose holes are awaited
pub record Numbered (before : Progress) (rel : Rel) (after : Progress) : Type 0 where
  pub done : List Sub
  pub subs_are : after.subs ≡ before.subs ++ done
  pub nodes_are : after.nodes ≡ before.nodes
  pub more : before.relations ≤ after.relations
  pub inside : AllByRecursion (λ (sub : Sub). AreWithin before.relations after.relations sub.rel) done
  pub own : AreWithin before.relations after.relations rel
  pub holes : AllByRecursion (HoleWithin before.relations after.relations) done
  pub in_own : AllByRecursion (λ (sub : Sub). AwaitsIn sub rel) done
  pub in_later : AwaitEachOther done

abbrev pub IsNumbered : (before : Progress) → Result (Rel × Progress) Refusal → Type 0
IsNumbered before (Ok (rel, after)) = Numbered before rel after
IsNumbered before (Err refusal) = Unit {0}

-- a relation's own hole awaits what goes there
module _ (number b : ℕ) (rel : Rel) (added : Part) (is : HasNumber number rel) (same : part_of rel ≡ added) (low : number < b) where
  awaits_here : (sub : Sub) → Placed number (number + 1) b 0 added.slots quiet sub → AwaitsAt sub (out-Rel rel)
  awaits_here sub (At place slot hole node at awaits) holds =
      let here : place ≡ sub.hole.node = omega (arith, node) in
      (slot, subst (λ (part : Part). slice_get part.slots sub.hole.node ≡ Some slot) (sym same) (subst (λ (one : ℕ). slice_get added.slots one ≡ Some slot) here at), awaits)
  awaits_here sub (Inside from below) holds = absurd (omega (arith, from, holds, is))
  awaits_here sub (Loose hole loose) holds = absurd loose

  awaits_own : (sub : Sub) → Placed number (number + 1) b 0 added.slots quiet sub → AllByRecursion (AwaitsIn sub) added.rels → AwaitsIn sub rel
  awaits_own sub placed inputs = every_rel (AwaitsAt sub) rel (subst (λ (part : Part). AllByRecursion (AwaitsIn sub) part.rels) (sym same) inputs) (awaits_here sub placed)

  hole_within : (sub : Sub) → Placed number (number + 1) b 0 added.slots quiet sub → HoleWithin number b sub
  hole_within sub (At place slot hole node at awaits) = (omega (arith, hole), omega (arith, hole, low))
  hole_within sub (Inside from below) = (omega (arith, from), below)
  hole_within sub (Loose hole loose) = absurd loose

  own_within : AllByRecursion (AreWithin (number + 1) b) added.rels → AreWithin number b rel
  own_within inputs =
      let below : (rel : Rel) → AreWithin (number + 1) b rel → AreWithin number b rel = λ one is. wider (number + 1) b number b (omega arith) (omega arith) one is in
      every_rel (HasWithin number b) rel
      (subst (λ (part : Part). AllByRecursion (AreWithin number b) part.rels) (sym same) (weakened (AreWithin (number + 1) b) (AreWithin number b) added.rels below inputs))
      (omega (arith, is), omega (arith, is, low))

-- the progress when a relation's check begins
abbrev begun : Progress → Progress
begun before = record { relations = before.relations + 1; nodes = 0; subs = before.subs }

numbered_at : (before : Progress) (r : Result (Rel × Progress) Refusal) → Found before.relations none (HasNumber before.relations) part_of nothing (begun before) r
    → IsNumbered before (go_on r (λ rel after. Ok (rel, record after { nodes = before.nodes })))
numbered_at before (Ok (rel, after)) f =
    let number = before.relations in
    let b = after.relations in
    let low : number < b = omega (arith, f.more) in
    let same : part_of rel ≡ f.added = f.state_is in
    record {
      done = f.done;
      subs_are = f.subs_are;
      nodes_are = refl;
      more = omega (arith, f.more);
      inside = weakened (λ (sub : Sub). AreWithin (number + 1) b sub.rel) (λ (sub : Sub). AreWithin number b sub.rel) f.done (λ sub is. wider (number + 1) b number b (omega arith) (omega arith) sub.rel is) f.fits.inside;
      own = own_within number b rel f.added f.is same low f.fits.inputs;
      holes = weakened (Placed number (number + 1) b 0 f.added.slots quiet) (HoleWithin number b) f.done (hole_within number b rel f.added f.is same low) f.fits.placed;
      in_own = all_both (Placed number (number + 1) b 0 f.added.slots quiet) (λ (sub : Sub). AllByRecursion (AwaitsIn sub) f.added.rels) (λ (sub : Sub). AwaitsIn sub rel) f.done (awaits_own number b rel f.added f.is same low) f.fits.placed f.fits.in_inputs;
      in_later = f.fits.in_later;
    }
numbered_at before (Err refusal) f = tt

pub numbered_whole : (relation : ℕ → Checking Rel) → IsWaitingRel relation → (before : Progress) → IsNumbered before (numbered relation before)
numbered_whole relation s before = numbered_at before (relation before.relations (begun before)) ((s before.relations).at (begun before) (omega arith))

-- an input among the parts of a relation
input_at : (relation : ℕ) (start : Part) (before : Progress) (r : Result (Rel × Progress) Refusal) → IsNumbered before r → Found relation none Any (λ rel. with_rels start (rel ∷ [])) start before r
input_at relation start before (Ok (rel, after)) n =
    let added : Part = record { slots = []; rels = rel ∷ [] } in
    record {
      is = tt;
      added = added;
      done = n.done;
      state_is = same_part (with_rels start (rel ∷ [])) (joined start added) (sym (append-nil start.slots)) refl;
      subs_are = n.subs_are;
      nodes_are = omega (arith, n.nodes_are);
      more = n.more;
      fits = record {
        inside = n.inside;
        inputs = (n.own, tt);
        placed = weakened (HoleWithin before.relations after.relations) (Placed relation before.relations after.relations before.nodes [] quiet) n.done (λ sub is. Inside is.0 is.1) n.holes;
        in_inputs = weakened (λ (sub : Sub). AwaitsIn sub rel) (λ (sub : Sub). AllByRecursion (AwaitsIn sub) (rel ∷ [])) n.done (λ sub is. (is, tt)) n.in_own;
        in_later = n.in_later;
      };
    }
input_at relation start before (Err refusal) n = tt

pub numbered_waits : (relation : ℕ) (start : Part) (written : ℕ → Checking Rel) → IsWaitingRel written → Waits relation none Any (λ rel. with_rels start (rel ∷ [])) start (numbered written)
numbered_waits relation start written s = record { at = λ before low. input_at relation start before (numbered written before) (numbered_whole written s before) }

pub input_waits : (relation : ℕ) (start : Part) (written : Option (ℕ → Checking Rel)) → MayBe IsWaitingRel written → Waits relation none Any (λ rel. with_rels start (rel ∷ [])) start (input relation written)
input_waits relation start (Some written) s = numbered_waits relation start written s
input_waits relation start None s = refused relation none Any (λ rel. with_rels start (rel ∷ [])) start relation _

-- several inputs
pub inputs_wait : (relation : ℕ) (written : List (ℕ → Checking Rel)) → AllByRecursion IsWaitingRel written → (start : Part) → Waits relation none Any (λ rels. with_rels start rels) start (in_order (map numbered written))
inputs_wait relation [] all start = accepted relation none Any (λ rels. with_rels start rels) start [] tt (same_part (with_rels start []) start refl (append-nil start.rels))
inputs_wait relation (first ∷ rest) all start =
    then (numbered_waits relation start first all.0) (λ rel _.
    then (inputs_wait relation rest all.1 (with_rels start (rel ∷ []))) (λ rels _.
    let now = with_rels (with_rels start (rel ∷ [])) rels in
    accepted relation none Any (λ all. with_rels start all) now (rel ∷ rels) tt (same_part (with_rels start (rel ∷ rels)) now refl (sym (append_assoc start.rels (rel ∷ []) rels)))))
