-- The groups of an aggregate number their nodes, and one that is dropped numbers none.
use Rattle.std.proofs.Common.{◌≡◌, ◌∙◌, ◌<◌, ℕ, List, [], ◌∷◌, ◌++◌, Bool, true, false, cond, get_or, Option, Some, None, Result, Ok, Err, eqb-true, map, refl, sym, ap, subst, arith}
use Rattle.std.specs.Prelude.{length, ◌==◌, not, nat_lt, position}
use Rattle.std.specs.List.{AllByRecursion, flat_map, position_or_len, range_with_len}
use Rattle.std.proofs.lemmas.Bool.Decides.{nat_tests}
use Rattle.std.proofs.lemmas.Grind.{flat_map-append}
use Rattle.std.proofs.lemmas.List.{append-nil, append_assoc}
use Rattle.std.proofs.lemmas.List.Folds.{flat_map-map}
use Rattle.std.proofs.lemmas.List.Sums.{passes_at_first}
use Rattle.plan_typed.specs.declared.expr.Expr.{Expr}
use Rattle.plan_typed.specs.declared.rel.Op.TheFolds.{every_here-Rel}
use Rattle.plan_typed.specs.declared.sub.Sub.{Sub}
use Rattle.well_typed.specs.WellTyped.{MayBe}
use Rattle.denote_typed.specs.Holes.{Slot, slots_of, slots_of_all}
use Rattle.plan_verdict.specs.declared.groups.Group.{Group}
use Rattle.plan_verdict.specs.declared.groups.Groups.{Groups}
use Rattle.plan_verdict.specs.declared.progress.Progress.{Progress}
use Rattle.plan_verdict.specs.Aggregates.{sets_of_places, referred, found_at, placed, is_same_group, group_in, set_in, sets_in, written_out, groups_in}
use Rattle.plan_verdict.specs.Checking.{Checking, Refusal, go_on, accept}
use Rattle.plan_verdict.specs.Meaning.{Scope, Expression, Sets}
use Rattle.plan_verdict.proofs.RelLaws.{anything_given}
use Rattle.verdict_awaits.proofs.ExprLaws.{IsWaitingExpr}
use Rattle.verdict_awaits.proofs.Parts.{Part, with_slots, same_part, HasWithin, AreWithin}
use Rattle.verdict_awaits.proofs.RelLaws.{each_waits}
use Rattle.verdict_awaits.proofs.Slots.{slots_of_each}
use Rattle.verdict_awaits.proofs.Waits.{After, Found, Waits, none, Any, then, accepted, after_none, parted}

-- no relation is numbered from a number up to below itself
none_within : (a : ℕ) (subs : List Sub) → AllByRecursion (λ (sub : Sub). AreWithin a a sub.rel) subs → subs ≡ []
none_within a [] all = refl
none_within a (sub ∷ subs) all =
    let here = every_here-Rel (λ _. Unit {0}) (HasWithin a a) sub.rel all.0 in
    absurd (omega (arith, here.0, here.1))

-- a group that holds a subquery equals no other
position_where : (at count : ℕ) (test : Bool) → nat_lt at count ≡ test → MayBe (λ place. at < count) (cond test (Some at) None)
position_where at count true e = grind (arith, nat_tests)
position_where at count false e = tt

position_some : (test : Group → Bool) (xs : List Group) → MayBe (λ _. position_or_len test xs < length xs) (position test xs)
position_some test xs = position_where (position_or_len test xs) (length xs) (nat_lt (position_or_len test xs) (length xs)) refl

passed_is : (group : Group) (holds : Bool) (other : Group) → group.holds_subquery ≡ holds → is_same_group group other ≡ true → holds ≡ false
passed_is group false other e test = refl
passed_is group true other e test = absurd (no e test)
  where
    no : group.holds_subquery ≡ true → is_same_group group other ≡ true → ⊥
    no e test = let holding : is_same_group (record group { holds_subquery = true }) other ≡ true = subst (λ b. is_same_group (record group { holds_subquery = b }) other ≡ true) e test in cc

holds_none : (group : Group) (groups : List Group) (o : Option ℕ) → MayBe (λ _. position_or_len (is_same_group group) groups < length groups) o → MayBe (λ _. group.holds_subquery ≡ false) o
holds_none group groups (Some place) within =
    passed_is group group.holds_subquery (get_or groups (position_or_len (is_same_group group) groups) group) refl (passes_at_first (is_same_group group) groups group within)
holds_none group groups None within = tt

-- the expressions of a grouping
abbrev pub AreWaitingSets : Sets → Type 0
AreWaitingSets one = AllByRecursion IsWaitingExpr one.expressions

-- the nodes of groups
abbrev pub slots_of_groups : List Group → List Slot
slots_of_groups groups = flat_map (λ (group : Group). slots_of group.expr) groups

module _ (scope : Scope) (start : Part) where
  abbrev AfterGroups : {A : Type 0} → List Group × A → Part
  AfterGroups found = with_slots start (slots_of_groups found.0)

  abbrev so_far : List Group → Part
  so_far groups = with_slots start (slots_of_groups groups)

  abbrev now : List Group → Expr → Part
  now groups expr = with_slots (so_far groups) (slots_of expr)

  same_numbers : (a b : ℕ) → not (a == b) ≡ false → a ≡ b
  same_numbers a b e = tested_as (a == b) refl e
    where
      tested_as : (test : Bool) → (a == b) ≡ test → not test ≡ false → a ≡ b
      tested_as true is e = eqb-true a b is
      tested_as false is e = absurd cc

  -- a group that is dropped has done nothing
  dropped : (groups : List Group) (before : Progress) (expr : Expr) (mid : Progress) (place : ℕ) → After scope.relation none Any (now groups) (so_far groups) before expr mid → before.relations ≡ mid.relations
      → After scope.relation none Any AfterGroups (so_far groups) before (groups, place) (record mid { nodes = before.nodes })
  dropped groups before expr mid place f same =
      let none_done : f.done ≡ [] = none_within before.relations f.done (subst (λ b. AllByRecursion (λ (sub : Sub). AreWithin before.relations b sub.rel) f.done) (sym same) f.fits.inside) in
      after_none scope.relation none Any AfterGroups (so_far groups) before (record mid { nodes = before.nodes }) (groups, place) tt refl
      (f.subs_are ∙ ap (λ subs. before.subs ++ subs) none_done ∙ append-nil before.subs) refl f.more

  -- one that is not is the last
  kept : (groups : List Group) (before : Progress) (group : Group) (mid : Progress) → After scope.relation none Any (now groups) (so_far groups) before group.expr mid
      → After scope.relation none Any AfterGroups (so_far groups) before (groups ++ group ∷ [], length groups) mid
  kept groups before group mid f = record {
    is = tt;
    added = f.added;
    done = f.done;
    state_is = same_part (so_far (groups ++ group ∷ [])) (now groups group.expr)
        (ap (λ l. start.slots ++ l) (flat_map-append (λ (one : Group). slots_of one.expr) groups (group ∷ []) ∙ ap (λ l. slots_of_groups groups ++ l) (append-nil (slots_of group.expr)))
        ∙ sym (append_assoc start.slots (slots_of_groups groups) (slots_of group.expr))) refl ∙ f.state_is;
    subs_are = f.subs_are;
    nodes_are = f.nodes_are;
    more = f.more;
    fits = f.fits;
  }

  placed_at : (groups : List Group) (before : Progress) (group : Group) (mid : Progress) (o : Option ℕ) → MayBe (λ _. group.holds_subquery ≡ false) o → (group.holds_subquery ≡ false → before.relations ≡ mid.relations)
      → After scope.relation none Any (now groups) (so_far groups) before group.expr mid
      → Found scope.relation none Any AfterGroups (so_far groups) before (let next : Checking (List Group × ℕ) = elim o [ Some place ↦ found_at groups before.nodes place | None ↦ accept (groups ++ group ∷ [], length groups) ] in next mid)
  placed_at groups before group mid (Some place) holds k f = dropped groups before group.expr mid place f (k holds)
  placed_at groups before group mid None holds k f = kept groups before group mid f

  group_at : (groups : List Group) (before : Progress) (expr : Expr) (mid : Progress) → After scope.relation none Any (now groups) (so_far groups) before expr mid
      → Found scope.relation none Any AfterGroups (so_far groups) before (placed groups before.nodes (record { expr = expr; holds_subquery = not (before.relations == mid.relations) }) mid)
  group_at groups before expr mid f =
      let group : Group = record { expr = expr; holds_subquery = not (before.relations == mid.relations) } in
      placed_at groups before group mid (position (is_same_group group) groups) (holds_none group groups (position (is_same_group group) groups) (position_some (is_same_group group) groups))
      (same_numbers before.relations mid.relations) f

  -- what follows the check of a grouping expression
  abbrev group_from : List Group → Progress → Result (Expr × Progress) Refusal → Result ((List Group × ℕ) × Progress) Refusal
  group_from groups before r = go_on r (λ expr mid. placed groups before.nodes (record { expr = expr; holds_subquery = not (before.relations == mid.relations) }) mid)

  checked_at : (groups : List Group) (before : Progress) (r : Result (Expr × Progress) Refusal) → Found scope.relation none Any (now groups) (so_far groups) before r
      → Found scope.relation none Any AfterGroups (so_far groups) before (group_from groups before r)
  checked_at groups before (Ok (expr, mid)) f = group_at groups before expr mid f
  checked_at groups before (Err refusal) f = tt

  group_waits : (groups : List Group) (written : Expression) → IsWaitingExpr written → Waits scope.relation none Any AfterGroups (so_far groups) (group_in scope groups written)
  group_waits groups written ok = record { at = λ before low. checked_at groups before (written.check scope before) ((ok scope (so_far groups)).at before low) }

  set_waits : (groups : List Group) (written : List Expression) → AllByRecursion IsWaitingExpr written → Waits scope.relation none Any AfterGroups (so_far groups) (set_in scope groups written)
  set_waits groups [] ok = accepted scope.relation none Any AfterGroups (so_far groups) (groups, []) tt refl
  set_waits groups (first ∷ rest) ok =
      then (group_waits groups first ok.0) (λ one _.
      then (set_waits one.0 rest ok.1) (λ others _. accepted scope.relation none Any AfterGroups (so_far others.0) (others.0, one.1 ∷ others.1) tt refl))

  sets_wait : (groups : List Group) (written : List Sets) → AllByRecursion AreWaitingSets written → Waits scope.relation none Any AfterGroups (so_far groups) (sets_in scope groups written)
  sets_wait groups [] ok = accepted scope.relation none Any AfterGroups (so_far groups) (groups, []) tt refl
  sets_wait groups (first ∷ rest) ok =
      then (set_waits groups first.expressions ok.0) (λ one _.
      then (sets_wait one.0 rest ok.1) (λ others _. accepted scope.relation none Any AfterGroups (so_far others.0) (others.0, one.1 ∷ others.1) tt refl))

  abbrev with_groups : Groups → Part
  with_groups found = with_slots start (slots_of_all found.groups)

  from_none : so_far [] ≡ start
  from_none = same_part (so_far []) start (append-nil start.slots) refl

  groups_are : (groups : List Group) → with_slots start (slots_of_all (map (λ (group : Group). group.expr) groups)) ≡ so_far groups
  groups_are groups = ap (with_slots start) (slots_of_each (map (λ (group : Group). group.expr) groups) ∙ flat_map-map slots_of (λ (group : Group). group.expr) groups)

  written_waits : (groupings : List Sets) → AllByRecursion AreWaitingSets groupings → Waits scope.relation none Any with_groups start (written_out scope groupings)
  written_waits [] ok = accepted scope.relation none Any with_groups start (record { groups = []; sets = [] ∷ [] }) tt from_none
  written_waits (one ∷ []) ok =
      then (each_waits scope one.expressions ok.0 start) (λ exprs _.
      accepted scope.relation none Any with_groups (with_slots start (slots_of_all exprs)) (record { groups = exprs; sets = range_with_len 0 (length exprs) ∷ [] }) tt refl)
  written_waits (one ∷ two ∷ rest) ok =
      then (subst (λ part. Waits scope.relation none Any AfterGroups part (sets_in scope [] (one ∷ two ∷ rest))) from_none (sets_wait [] (one ∷ two ∷ rest) ok)) (λ found _.
      accepted scope.relation none Any with_groups (so_far found.0) (record { groups = map (λ (group : Group). group.expr) found.0; sets = found.1 }) tt (groups_are found.0))

  referred_waits : (expressions : List Expression) (groupings : List Sets) → AllByRecursion IsWaitingExpr expressions → Waits scope.relation none Any with_groups start (referred scope expressions groupings)
  referred_waits expressions groupings ok =
      then (each_waits scope expressions ok start) (λ exprs _.
      let places = map (λ (one : Sets). one.references) groupings in
      let now = with_slots start (slots_of_all exprs) in
      then (parted scope.relation Any scope.relation (sets_of_places (length exprs) places) (anything_given (sets_of_places (length exprs) places)) now) (λ sets _.
      accepted scope.relation none Any with_groups now (record { groups = exprs; sets = sets }) tt refl))

  pub groups_wait : (expressions : List Expression) (groupings : List Sets) → AllByRecursion IsWaitingExpr expressions → AllByRecursion AreWaitingSets groupings → Waits scope.relation none Any (λ (found : Groups). with_slots start (slots_of_all found.groups)) start (groups_in scope expressions groupings)
  groups_wait [] groupings ok all = written_waits groupings all
  groups_wait (first ∷ rest) groupings ok all = referred_waits (first ∷ rest) groupings ok
