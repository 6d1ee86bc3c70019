-- The groups of an aggregate are well typed, and its sets name their places.
use Rattle.std.proofs.Common.{zero, suc, ◌≡◌, ◌≤◌, ◌<◌, ℕ, ◌+◌, List, [], ◌∷◌, ◌++◌, Bool, true, false, cond, Option, Some, None, Ok, Err, map, refl, sym, subst, arith}
use Rattle.std.specs.Prelude.{length, ◌==◌, ◌&&◌, not, nat_lt, position}
use Rattle.std.specs.List.{AllByRecursion, list_all, list_any, range_with_len, position_or_len}
use Rattle.std.proofs.lemmas.Bool.{and_parts}
use Rattle.std.proofs.lemmas.Bool.Decides.{nat_tests}
use Rattle.plan_typed.specs.declared.expr.Expr.{Expr}
use Rattle.well_typed.specs.Columns.{MAX_GROUPINGS}
use Rattle.well_typed.specs.ExprTyped.{IsTypedOver, HasOne}
use Rattle.well_typed.specs.WellTyped.{MayBe, AreBelow}
use Rattle.well_typed.proofs.MadeRel.{all_places}
use Rattle.well_typed.proofs.ValidKinds.{AreKinds}
use Rattle.plan_verdict.specs.declared.groups.Group.{Group}
use Rattle.plan_verdict.specs.declared.groups.Groups.{Groups}
use Rattle.plan_verdict.specs.declared.rule.Rule.TheVariants as rules
use Rattle.plan_verdict.specs.Aggregates.{are_places, is_referred_to, sets_of_places, referred, found_at, placed, is_same_group, group_in, set_in, sets_in, written_out, groups_in}
use Rattle.plan_verdict.specs.Checking.{accept, relations_so_far, nodes_so_far, nodes_from}
use Rattle.plan_verdict.specs.Exprs.{each_in}
use Rattle.plan_verdict.specs.Meaning.{Scope, Expression, Sets}
use Rattle.plan_verdict.proofs.ExprLaws.{IsSoundExpr}
use Rattle.plan_verdict.proofs.Sound.{Sound, Quiet, then, and_then, accepted, parted, same_held, Given, AllOf, each_sound, weaken, length_mapped}

-- the places of a set are of so many groups
places_below : (count : ℕ) (set : List ℕ) → are_places count set ≡ true → AreBelow count set
places_below count [] test = tt
places_below count (place ∷ places) test =
    let parts = and_parts (nat_lt place count && not (list_any (λ other. other == place) places)) (are_places count places) test in
    let first = and_parts (nat_lt place count) (not (list_any (λ other. other == place) places)) parts.0 in
    (below (nat_lt place count) refl first.0, places_below count places parts.1)
  where
    below : (test : Bool) → nat_lt place count ≡ test → test ≡ true → place < count
    below true e h = grind (arith, nat_tests)
    below false e h = absurd cc

sets_below : (count : ℕ) (sets : List (List ℕ)) → list_all (are_places count) sets ≡ true → AllByRecursion (AreBelow count) sets
sets_below count [] test = tt
sets_below count (set ∷ sets) test =
    let parts = and_parts (are_places count set) (list_all (are_places count) sets) test in
    (places_below count set parts.0, sets_below count sets parts.1)

-- sets of places of so many groups, as many sets as these, and one at least where there is a group
record AreSets (count total : ℕ) (found : List (List ℕ)) : Type 0 where
  below : AllByRecursion (AreBelow count) found
  number : length found ≡ total
  some : 0 < count → HasOne found

some_set : (count : ℕ) (sets : List (List ℕ)) → list_all (is_referred_to sets) (range_with_len 0 count) ≡ true → 0 < count → HasOne sets
some_set zero sets test more = let no : ⊥ = omega (arith, more) in absurd no
some_set (suc count) [] test more = absurd cc
some_set (suc count) (set ∷ sets) test more = tt

sets_where : (count : ℕ) (sets : List (List ℕ)) (places all : Bool) → list_all (are_places count) sets ≡ places → list_all (is_referred_to sets) (range_with_len 0 count) ≡ all
    → Given (AreSets count (length sets)) (cond (not places) (Err rules.BadReference) (cond (not all) (Err rules.UnsupportedForm) (Ok sets)))
sets_where count sets true true e f = record { below = sets_below count sets e; number = refl; some = some_set count sets f }
sets_where count sets true false e f = tt
sets_where count sets false all e f = tt

sets_given : (count : ℕ) (sets : List (List ℕ)) → Given (AreSets count (length sets)) (sets_of_places count sets)
sets_given count sets = sets_where count sets (list_all (are_places count) sets) (list_all (is_referred_to sets) (range_with_len 0 count)) refl refl

has_one : {A : Type 0} (values : List A) (more : ℕ) → length values ≡ more + 1 → HasOne values
has_one [] more e = let no : ⊥ = omega (arith, e) in absurd no
has_one (value ∷ values) more e = tt

-- places of fewer groups are of more
more_below : (few many : ℕ) (places : List ℕ) → few ≤ many → AreBelow few places → AreBelow many places
more_below few many places h all = weaken (λ place. place < few) (λ place. place < many) places (λ place below. omega (arith, below, h)) all

more_sets : (few many : ℕ) (sets : List (List ℕ)) → few ≤ many → AllByRecursion (AreBelow few) sets → AllByRecursion (AreBelow many) sets
more_sets few many sets h all = weaken (AreBelow few) (AreBelow many) sets (λ set below. more_below few many set h below) all

-- the expressions of a grouping
abbrev pub AreSoundSets : Sets → Type 0
AreSoundSets one = AllByRecursion IsSoundExpr one.expressions

position_where : (at count : ℕ) (test : Bool) → nat_lt at count ≡ test → MayBe (λ place. place < count) (cond test (Some at) None)
position_where at count true e = grind (arith, nat_tests)
position_where at count false e = tt

position_below : {A : Type 0} (test : A → Bool) (xs : List A) → MayBe (λ place. place < length xs) (position test xs)
position_below test xs = position_where (position_or_len test xs) (length xs) (nat_lt (position_or_len test xs) (length xs)) refl

one_more : {A : Type 0} (P : A → Type 0) (xs : List A) (x : A) → AllByRecursion P xs → P x → AllByRecursion P (xs ++ x ∷ []) × (length (xs ++ x ∷ []) ≡ length xs + 1)
one_more P [] x all p = ((p, tt), refl)
one_more P (y ∷ ys) x all p = let rest = one_more P ys x all.1 p in ((all.0, rest.0), omega (arith, rest.1))

-- the numbers that the next relation and expression get
so_far : (extra : List ℕ) → Sound (λ _. Unit {0}) (λ _. extra) extra relations_so_far
so_far extra = record { at = λ before ok. record { known = tt; subs = ok; more = omega arith; apart = λ n. omega arith } }

nodes_sound : (extra : List ℕ) → Sound (λ _. Unit {0}) (λ _. extra) extra nodes_so_far
nodes_sound extra = record { at = λ before ok. record { known = tt; subs = ok; more = omega arith; apart = λ n. omega arith } }

from_sound : (node : ℕ) (extra : List ℕ) → Sound (λ _. Unit {0}) (λ _. extra) extra (nodes_from node)
from_sound node extra = record { at = λ before ok. record { known = tt; subs = ok; more = omega arith; apart = λ n. omega arith } }

module _ (scope : Scope) where
  -- groups of well-typed expressions, and sets of their places
  pub record AreGroups (found : Groups) : Type 0 where
    pub typed : AllByRecursion (IsTypedOver scope.columns) found.groups
    pub below : AllByRecursion (AreBelow (length found.groups)) found.sets
    pub some : HasOne found.sets
    pub few : length found.sets ≤ MAX_GROUPINGS

module _ (scope : Scope) (valid : AreKinds scope.columns) where
  abbrev Is : Expr → Type 0
  Is = IsTypedOver scope.columns

  abbrev AreTypedGroups : List Group → Type 0
  AreTypedGroups groups = AllByRecursion (λ (group : Group). Is group.expr) groups

  -- so many groups or more, one of which has this place
  record HasPlace (count : ℕ) (found : List Group × ℕ) : Type 0 where
    typed : AreTypedGroups found.0
    more : count ≤ length found.0
    below : found.1 < length found.0

  record HasSet (count : ℕ) (found : List Group × List ℕ) : Type 0 where
    typed : AreTypedGroups found.0
    more : count ≤ length found.0
    below : AreBelow (length found.0) found.1

  record HasSets (count total : ℕ) (found : List Group × List (List ℕ)) : Type 0 where
    typed : AreTypedGroups found.0
    number : length found.1 ≡ total
    more : count ≤ length found.0
    below : AllByRecursion (AreBelow (length found.0)) found.1

  placed_at : (groups : List Group) (node : ℕ) (group : Group) (o : Option ℕ) → AreTypedGroups groups → Is group.expr → MayBe (λ place. place < length groups) o
      → Quiet (HasPlace (length groups)) (elim o [ Some place ↦ found_at groups node place | None ↦ accept (groups ++ group ∷ [], length groups) ])
  placed_at groups node group (Some place) all one below extra =
      and_then (from_sound node extra) (λ _ _.
      accepted (HasPlace (length groups)) (λ _. extra) extra (groups, place) (record { typed = all; more = omega arith; below = below }) (same_held extra))
  placed_at groups node group None all one below extra =
      let more = one_more (λ (g : Group). Is g.expr) groups group all one in
      accepted (HasPlace (length groups)) (λ _. extra) extra (groups ++ group ∷ [], length groups) (record { typed = more.0; more = omega (arith, more.1); below = omega (arith, more.1) }) (same_held extra)

  placed_sound : (groups : List Group) (node : ℕ) (group : Group) → AreTypedGroups groups → Is group.expr → Quiet (HasPlace (length groups)) (placed groups node group)
  placed_sound groups node group all one = placed_at groups node group (position (is_same_group group) groups) all one (position_below (is_same_group group) groups)

  group_sound : (groups : List Group) (written : Expression) → AreTypedGroups groups → IsSoundExpr written → Quiet (HasPlace (length groups)) (group_in scope groups written)
  group_sound groups written all ok extra =
      then (nodes_sound extra) (λ node _.
      then (so_far extra) (λ before _.
      then (ok scope valid extra) (λ expr typed.
      then (so_far extra) (λ after _.
      placed_sound groups node (record { expr = expr; holds_subquery = not (before == after) }) all typed extra))))

  set_sound : (groups : List Group) (written : List Expression) → AreTypedGroups groups → AllByRecursion IsSoundExpr written → Quiet (HasSet (length groups)) (set_in scope groups written)
  set_sound groups [] all ok extra = accepted (HasSet (length groups)) (λ _. extra) extra (groups, []) (record { typed = all; more = omega arith; below = tt }) (same_held extra)
  set_sound groups (first ∷ rest) all ok extra =
      then (group_sound groups first all ok.0 extra) (λ one p.
      then (set_sound one.0 rest p.typed ok.1 extra) (λ others q.
      accepted (HasSet (length groups)) (λ _. extra) extra (others.0, one.1 ∷ others.1) (record { typed = q.typed; more = omega (arith, p.more, q.more); below = (omega (arith, p.below, q.more), q.below) }) (same_held extra)))

  sets_sound : (groups : List Group) (written : List Sets) → AreTypedGroups groups → AllByRecursion AreSoundSets written → Quiet (HasSets (length groups) (length written)) (sets_in scope groups written)
  sets_sound groups [] all ok extra = accepted (HasSets (length groups) 0) (λ _. extra) extra (groups, []) (record { typed = all; number = refl; more = omega arith; below = tt }) (same_held extra)
  sets_sound groups (first ∷ rest) all ok extra =
      then (set_sound groups first.expressions all ok.0 extra) (λ one p.
      then (sets_sound one.0 rest p.typed ok.1 extra) (λ others q.
      accepted (HasSets (length groups) (length (first ∷ rest))) (λ _. extra) extra (others.0, one.1 ∷ others.1)
      (record { typed = q.typed; number = omega (arith, q.number); more = omega (arith, p.more, q.more); below = (more_below (length one.0) (length others.0) one.1 q.more p.below, q.below) }) (same_held extra)))

  groups_typed : (groups : List Group) → AreTypedGroups groups → AllByRecursion Is (map (λ (group : Group). group.expr) groups)
  groups_typed [] all = tt
  groups_typed (group ∷ groups) all = (all.0, groups_typed groups all.1)

  each_typed : (written : List Expression) → AllByRecursion IsSoundExpr written → (extra : List ℕ) → Sound (AllOf Is (length written)) (λ _. extra) extra (each_in scope written)
  each_typed written ok extra = each_sound Is IsSoundExpr (λ (e : Expression). e.check scope) written ok (λ e q. q scope valid) extra

  written_sound : (groupings : List Sets) → length groupings ≤ MAX_GROUPINGS → AllByRecursion AreSoundSets groupings → Quiet (AreGroups scope) (written_out scope groupings)
  written_sound [] few ok extra = accepted (AreGroups scope) (λ _. extra) extra (record { groups = []; sets = [] ∷ [] }) (record { typed = tt; below = (tt, tt); some = tt; few = omega arith }) (same_held extra)
  written_sound (one ∷ []) few ok extra =
      then (each_typed one.expressions ok.0 extra) (λ exprs p.
      accepted (AreGroups scope) (λ _. extra) extra (record { groups = exprs; sets = range_with_len 0 (length exprs) ∷ [] }) (record { typed = p.0; below = (all_places (length exprs), tt); some = tt; few = omega arith }) (same_held extra))
  written_sound (one ∷ two ∷ rest) few ok extra =
      then (sets_sound [] (one ∷ two ∷ rest) tt ok extra) (λ found p.
      let count = sym (length_mapped (λ (group : Group). group.expr) found.0) in
      accepted (AreGroups scope) (λ _. extra) extra (record { groups = map (λ (group : Group). group.expr) found.0; sets = found.1 })
      (record { typed = groups_typed found.0 p.typed; below = subst (λ n. AllByRecursion (AreBelow n) found.1) count p.below; some = has_one found.1 (length rest + 1) (omega (arith, p.number)); few = omega (arith, p.number, few) }) (same_held extra))

  referred_sound : (expressions : List Expression) (groupings : List Sets) → 0 < length expressions → length groupings ≤ MAX_GROUPINGS → AllByRecursion IsSoundExpr expressions → Quiet (AreGroups scope) (referred scope expressions groupings)
  referred_sound expressions groupings more few ok extra =
      then (each_typed expressions ok extra) (λ exprs p.
      let places = map (λ (one : Sets). one.references) groupings in
      then (parted (AreSets (length exprs) (length places)) extra scope.relation (sets_of_places (length exprs) places) (sets_given (length exprs) places)) (λ sets are.
      accepted (AreGroups scope) (λ _. extra) extra (record { groups = exprs; sets = sets }) (record { typed = p.0; below = are.below; some = are.some (omega (arith, p.1, more)); few = omega (arith, are.number, length_mapped (λ (one : Sets). one.references) groupings, few) }) (same_held extra)))

  pub groups_sound : (expressions : List Expression) (groupings : List Sets) → length groupings ≤ MAX_GROUPINGS → AllByRecursion IsSoundExpr expressions → AllByRecursion AreSoundSets groupings → Quiet (AreGroups scope) (groups_in scope expressions groupings)
  groups_sound [] groupings few ok all = written_sound groupings few all
  groups_sound (first ∷ rest) groupings few ok all = referred_sound (first ∷ rest) groupings (omega arith) few ok
