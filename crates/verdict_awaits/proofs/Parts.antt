-- What a part of a relation's checks numbers and does; what holds of one part and of the next holds of both.
use Rattle.std.proofs.Common.{◌≡◌, ◌∙◌, ◌≤◌, ◌<◌, ◌⊎◌, inl, inr, ℕ, ◌+◌, suc, zero, List, [], ◌∷◌, ◌++◌, length, Some, slice_get, sym, ap, subst, arith}
use Rattle.std.specs.List.{AllByRecursion}
use Rattle.std.proofs.lemmas.List.{append-nil, append_assoc}
use Rattle.plan_typed.specs.declared.rel.Op.{Op}
use Rattle.plan_typed.specs.declared.rel.Rel.{Rel, Rel-F}
use Rattle.plan_typed.specs.declared.sub.Sub.{Sub}
use Rattle.plan_typed.specs.Types.{columns_of}
use Rattle.well_typed.proofs.ValidKinds.{all_both}
use Rattle.denote_typed.specs.Holes.{Slot, Awaits, AwaitsAt, AwaitsIn}
use Rattle.denote_typed.proofs.FillRelLaws.{Every, every_both}

-- the nodes and the inputs of a part of a relation
pub record Part : Type 0 where
  pub slots : List Slot
  pub rels : List Rel

abbrev pub nothing : Part
nothing = record { slots = []; rels = [] }

abbrev pub joined : Part → Part → Part
joined a b = record { slots = a.slots ++ b.slots; rels = a.rels ++ b.rels }

abbrev pub with_slots : Part → List Slot → Part
with_slots part slots = record { slots = part.slots ++ slots; rels = part.rels }

abbrev pub with_rels : Part → List Rel → Part
with_rels part rels = record { slots = part.slots; rels = part.rels ++ rels }

abbrev pub slots_alone : List Slot → Part
slots_alone slots = record { slots = slots; rels = [] }

pub same_part : (a b : Part) → a.slots ≡ b.slots → a.rels ≡ b.rels → a ≡ b
same_part a b e f = ap {B = Part} (λ l. record { slots = l; rels = a.rels }) e ∙ ap {B = Part} (λ l. record { slots = b.slots; rels = l }) f

pub joined_assoc : (a b c : Part) → joined (joined a b) c ≡ joined a (joined b c)
joined_assoc a b c = same_part (joined (joined a b) c) (joined a (joined b c)) (append_assoc a.slots b.slots c.slots) (append_assoc a.rels b.rels c.rels)

pub joined_nothing : (a : Part) → a ≡ joined a nothing
joined_nothing a = same_part a (joined a nothing) (sym (append-nil a.slots)) (sym (append-nil a.rels))

-- lists of which something holds
pub all_any : {A : Type 0} (xs : List A) → AllByRecursion (λ _. Unit {0}) xs
all_any [] = tt
all_any (x ∷ xs) = (tt, all_any xs)

pub all_append : {A : Type 0} (P : A → Type 0) (xs ys : List A) → AllByRecursion P xs → AllByRecursion P ys → AllByRecursion P (xs ++ ys)
all_append P [] ys all others = others
all_append P (x ∷ xs) ys all others = (all.0, all_append P xs ys all.1 others)

pub weakened : {A : Type 0} (P Q : A → Type 0) (xs : List A) → ((x : A) → P x → Q x) → AllByRecursion P xs → AllByRecursion Q xs
weakened P Q [] k all = tt
weakened P Q (x ∷ xs) k all = (k x all.0, weakened P Q xs k all.1)

-- the relations that are numbered from the first number up to below the second
abbrev pub HasWithin : ℕ → ℕ → Rel-F Op Rel → Type 0
HasWithin a b level = (a ≤ level.number) × (level.number < b)

abbrev pub AreWithin : ℕ → ℕ → Rel → Type 0
AreWithin a b rel = Every (HasWithin a b) rel

pub wider : (a b c d : ℕ) → c ≤ a → b ≤ d → (rel : Rel) → AreWithin a b rel → AreWithin c d rel
wider a b c d low high rel within =
    every_both (HasWithin a b) (HasWithin a b) (HasWithin c d) (λ level w _. (omega (arith, low, w.0), omega (arith, high, w.1))) rel within within

-- a hole of another relation awaits nothing in these
pub none_awaited : (sub : Sub) (a b : ℕ) (rel : Rel) → (sub.hole.relation < a) ⊎ (b ≤ sub.hole.relation) → AreWithin a b rel → AwaitsIn sub rel
none_awaited sub a b rel away within =
    every_both (HasWithin a b) (HasWithin a b) (AwaitsAt sub) (λ level w _ same. absurd (apart level away w same)) rel within within
  where
    apart : (level : Rel-F Op Rel) → (sub.hole.relation < a) ⊎ (b ≤ sub.hole.relation) → HasWithin a b level → level.number ≡ sub.hole.relation → ⊥
    apart level (inl below) w same = omega (arith, below, w.0, same)
    apart level (inr above) w same = omega (arith, above, w.1, same)

-- where a subquery's hole is: at one of these nodes of this relation, which awaits it, in a relation numbered meanwhile, or at a node
-- that is not known yet
pub data Placed (relation a b first : ℕ) (slots : List Slot) (loose : Sub → Type 0) (sub : Sub) : Type 0 where
  At : (place : ℕ) (slot : Slot) → sub.hole.relation ≡ relation → sub.hole.node ≡ first + place → slice_get slots place ≡ Some slot → Awaits sub.kind (columns_of sub.rel) slot → Placed relation a b first slots loose sub
  Inside : a ≤ sub.hole.relation → sub.hole.relation < b → Placed relation a b first slots loose sub
  Loose : sub.hole.relation ≡ relation → loose sub → Placed relation a b first slots loose sub

-- the hole of each of these subqueries awaits it in the later ones
abbrev pub AwaitEachOther : List Sub → Type 0
AwaitEachOther [] = Unit {0}
AwaitEachOther (sub ∷ subs) = AllByRecursion (λ (later : Sub). AwaitsIn sub later.rel) subs × AwaitEachOther subs

-- the subqueries that are done in a part, from the relation with one number up to below another, and from the node with this number
pub record Fits (relation : ℕ) (loose : Sub → Type 0) (a b first : ℕ) (added : Part) (done : List Sub) : Type 0 where
  pub inside : AllByRecursion (λ (sub : Sub). AreWithin a b sub.rel) done
  pub inputs : AllByRecursion (AreWithin a b) added.rels
  pub placed : AllByRecursion (Placed relation a b first added.slots loose) done
  pub in_inputs : AllByRecursion (λ (sub : Sub). AllByRecursion (AwaitsIn sub) added.rels) done
  pub in_later : AwaitEachOther done

pub fits_nothing : (relation : ℕ) (loose : Sub → Type 0) (a b first : ℕ) → Fits relation loose a b first nothing []
fits_nothing relation loose a b first = record { inside = tt; inputs = tt; placed = tt; in_inputs = tt; in_later = tt }

abbrev pub quiet : Sub → Type 0
quiet sub = ⊥

get_left : (a b : List Slot) (place : ℕ) (slot : Slot) → slice_get a place ≡ Some slot → slice_get (a ++ b) place ≡ Some slot
get_left [] b place slot is = absurd cc
get_left (x ∷ a) b zero slot is = is
get_left (x ∷ a) b (suc place) slot is = get_left a b place slot is

get_right : (a b : List Slot) (place : ℕ) (slot : Slot) → slice_get b place ≡ Some slot → slice_get (a ++ b) (length a + place) ≡ Some slot
get_right [] b place slot is =
    let same : place ≡ 0 + place = omega arith in
    subst (λ (at : ℕ). slice_get b at ≡ Some slot) same is
get_right (x ∷ a) b place slot is =
    let same : suc (length a + place) ≡ length (x ∷ a) + place = omega arith in
    subst (λ (at : ℕ). slice_get (x ∷ (a ++ b)) at ≡ Some slot) same (get_right a b place slot is)

-- two parts, one after the other
module _ (relation : ℕ) (loose : Sub → Type 0) (a b c first : ℕ) (low : relation < a) (up : a ≤ b) (on : b ≤ c) (one other : Part) where
  placed_first : (sub : Sub) → Placed relation a b first one.slots quiet sub → Placed relation a c first (one.slots ++ other.slots) loose sub
  placed_first sub (At place slot same node is awaits) = At place slot same node (get_left one.slots other.slots place slot is) awaits
  placed_first sub (Inside from below) = Inside from (omega (arith, below, on))
  placed_first sub (Loose same is) = absurd is

  placed_next : (sub : Sub) → Placed relation b c (first + length one.slots) other.slots loose sub → Placed relation a c first (one.slots ++ other.slots) loose sub
  placed_next sub (At place slot same node is awaits) = At (length one.slots + place) slot same (omega (arith, node)) (get_right one.slots other.slots place slot is) awaits
  placed_next sub (Inside from below) = Inside (omega (arith, from, up)) below
  placed_next sub (Loose same is) = Loose same is

  -- a hole of the first part is in no relation of the next, nor the other way round
  first_below : (sub : Sub) → Placed relation a b first one.slots quiet sub → (sub.hole.relation < b) ⊎ (c ≤ sub.hole.relation)
  first_below sub (At place slot same node is awaits) = inl (omega (arith, same, low, up))
  first_below sub (Inside from below) = inl below
  first_below sub (Loose same is) = absurd is

  next_apart : (sub : Sub) → Placed relation b c (first + length one.slots) other.slots loose sub → (sub.hole.relation < a) ⊎ (b ≤ sub.hole.relation)
  next_apart sub (At place slot same node is awaits) = inl (omega (arith, same, low))
  next_apart sub (Inside from below) = inr from
  next_apart sub (Loose same is) = inl (omega (arith, same, low))

  await_both : (done others : List Sub) → AllByRecursion (Placed relation a b first one.slots quiet) done → AllByRecursion (λ (sub : Sub). AreWithin b c sub.rel) others → AwaitEachOther done → AwaitEachOther others → AwaitEachOther (done ++ others)
  await_both [] others placed within each rest = rest
  await_both (sub ∷ done) others placed within each rest = (
    all_append (λ (later : Sub). AwaitsIn sub later.rel) done others each.0
        (weakened (λ (later : Sub). AreWithin b c later.rel) (λ (later : Sub). AwaitsIn sub later.rel) others (λ later is. none_awaited sub b c later.rel (first_below sub placed.0) is) within),
    await_both done others placed.1 within each.1 rest,
  )

  pub fits_both : (done others : List Sub) → Fits relation quiet a b first one done → Fits relation loose b c (first + length one.slots) other others → Fits relation loose a c first (joined one other) (done ++ others)
  fits_both done others f g = record {
    inside = all_append (λ (sub : Sub). AreWithin a c sub.rel) done others
        (weakened (λ (sub : Sub). AreWithin a b sub.rel) (λ (sub : Sub). AreWithin a c sub.rel) done (λ sub is. wider a b a c (omega arith) on sub.rel is) f.inside)
        (weakened (λ (sub : Sub). AreWithin b c sub.rel) (λ (sub : Sub). AreWithin a c sub.rel) others (λ sub is. wider b c a c up (omega arith) sub.rel is) g.inside);
    inputs = all_append (AreWithin a c) one.rels other.rels
        (weakened (AreWithin a b) (AreWithin a c) one.rels (λ rel is. wider a b a c (omega arith) on rel is) f.inputs)
        (weakened (AreWithin b c) (AreWithin a c) other.rels (λ rel is. wider b c a c up (omega arith) rel is) g.inputs);
    placed = all_append (Placed relation a c first (one.slots ++ other.slots) loose) done others
        (weakened (Placed relation a b first one.slots quiet) (Placed relation a c first (one.slots ++ other.slots) loose) done placed_first f.placed)
        (weakened (Placed relation b c (first + length one.slots) other.slots loose) (Placed relation a c first (one.slots ++ other.slots) loose) others placed_next g.placed);
    in_inputs = all_append (λ (sub : Sub). AllByRecursion (AwaitsIn sub) (one.rels ++ other.rels)) done others
        (all_both (Placed relation a b first one.slots quiet) (λ (sub : Sub). AllByRecursion (AwaitsIn sub) one.rels) (λ (sub : Sub). AllByRecursion (AwaitsIn sub) (one.rels ++ other.rels)) done
        (λ sub is all. all_append (AwaitsIn sub) one.rels other.rels all (weakened (AreWithin b c) (AwaitsIn sub) other.rels (λ rel within. none_awaited sub b c rel (first_below sub is) within) g.inputs)) f.placed f.in_inputs)
        (all_both (Placed relation b c (first + length one.slots) other.slots loose) (λ (sub : Sub). AllByRecursion (AwaitsIn sub) other.rels) (λ (sub : Sub). AllByRecursion (AwaitsIn sub) (one.rels ++ other.rels)) others
        (λ sub is all. all_append (AwaitsIn sub) one.rels other.rels (weakened (AreWithin a b) (AwaitsIn sub) one.rels (λ rel within. none_awaited sub a b rel (next_apart sub is) within) f.inputs) all) g.placed g.in_inputs);
    in_later = await_both done others f.placed g.inside f.in_later g.in_later;
  }
