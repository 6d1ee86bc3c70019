-- Letting go of groups once there are too many changes nothing of what an aggregate's check gives: it is refused in any case, and the
-- first refusal is the same, since checks don't depend on the numbers of nodes.
use Rattle.std.proofs.Common.{◌≡◌, ℕ, ◌+◌, ◌<◌, ◌≤◌, List, [], ◌∷◌, ◌++◌, length, map, Bool, true, false, cond, Option, Some, None, Result, Ok, Err, refl, sym, ap, subst, arith}
use Rattle.std.specs.Prelude.{◌==◌, nat_le, not, position}
use Rattle.std.specs.Option.{option_map}
use Rattle.std.specs.List.{AllByRecursion, enumerate_from}
use Rattle.std.proofs.lemmas.Bool.Decides.{nat_tests}
use Rattle.std.proofs.lemmas.List.{length-append}
use Rattle.std.proofs.lemmas.List.FromFn.{length-enumerate_from}
use Rattle.sub_types.specs.declared.kind.Ty.{Ty}
use Rattle.plan_leaves.specs.declared.common.RelCommon.{RelCommon}
use Rattle.plan_raw.specs.declared.aggregate.Grouping.{Grouping}
use Rattle.plan_raw.specs.declared.aggregate.Measure.{Measure}
use Rattle.plan_typed.specs.declared.expr.Expr.{Expr}
use Rattle.plan_typed.specs.declared.rel.Op.{Op}
use Rattle.plan_typed.specs.declared.rel.Rel.{Rel}
use Rattle.plan_typed.specs.declared.rel.SetMeasure.{SetMeasure}
use Rattle.plan_typed.specs.Types.{columns_of}
use Rattle.plan_verdict.specs.declared.groups.Group.{Group}
use Rattle.plan_verdict.specs.declared.groups.Groups.{Groups}
use Rattle.plan_verdict.specs.declared.progress.Progress.{Progress}
use Rattle.plan_verdict.specs.declared.rule.Rule.TheVariants as rules
use Rattle.plan_verdict.specs.Aggregates.{group_type, number_column, is_same_group, found_at, placed, group_in, set_in, sets_in, written_out, referred, aggregate_op, aggregate_columns, aggregate_over}
use Rattle.plan_verdict.specs.Checking.{Checking, Refusal, go_on, accept, in_order}
use Rattle.plan_verdict.specs.Columns.{MAX_COLUMNS}
use Rattle.plan_verdict.specs.Exprs.{Terms}
use Rattle.plan_verdict.specs.Meaning.{Scope, Expression, Sets}
use Rattle.plan_verdict.specs.Relation.{finished}
use Rattle.plan_verdict.specs.Rels.{over}
use Rattle.plan_verdict.specs.Verdict.{checked_grouping, checked_measure}
use Rattle.plan_verdict.proofs.Sound.{length_mapped}
use Rattle.verdict_nodes.specs.Alike.{AreAlike}
use Rattle.verdict_nodes.proofs.AggregateLaws.{AreBlindSets, IsBlindMeasure}
use Rattle.verdict_nodes.proofs.ExprLaws.{IsBlindExpr}
use Rattle.verdict_nodes.proofs.PlanLevelLaws.{every_grouping_alike, every_measure_alike}
use Rattle.verdict_nodes.proofs.Steps.{each_alike}
use Rattle.check_groups.specs.Capped.{few_groups, capped_group_in, capped_set_in, capped_sets_in, groups_with, capped_with, capped_over, too_many}

not_few : (count : ℕ) → MAX_COLUMNS < count → nat_le count MAX_COLUMNS ≡ false
not_few count many = by (nat_le count MAX_COLUMNS) refl
  where
    by : (test : Bool) → nat_le count MAX_COLUMNS ≡ test → test ≡ false
    by true e = absurd (few e)
      where
        few : nat_le count MAX_COLUMNS ≡ true → ⊥
        few e = grind (arith, nat_tests)
    by false e = refl

-- what is found with groups, of which there may be too many, and without that
abbrev Capped : Type 0 → Type 0
Capped X = Result ((Option (List Group) × X) × Progress) Refusal

abbrev Whole : Type 0 → Type 0
Whole X = Result ((List Group × X) × Progress) Refusal

-- there are too many groups on both sides, or the same refusal
abbrev AreMany : {X : Type 0} → Capped X → Whole X → Type 0
AreMany (Ok ((None, x), after)) (Ok ((groups, y), end)) = (MAX_COLUMNS < length groups) × (after.relations ≡ end.relations)
AreMany (Err refusal) (Err other) = refusal ≡ other
AreMany _ _ = ⊥

-- the same groups, or too many, or the same refusal
abbrev AreSame : {X : Type 0} → Capped X → Whole X → Type 0
AreSame (Ok ((Some groups, x), after)) found = found ≡ Ok ((groups, x), after)
AreSame (Ok ((None, x), after)) found = AreMany (Ok ((None, x), after)) found
AreSame (Err refusal) found = found ≡ Err refusal

many_same : {X : Type 0} (r : Capped X) (s : Whole X) → AreMany r s → AreSame r s
many_same (Ok ((None, x), after)) s many = many
many_same (Ok ((Some groups, x), after)) (Ok found) many = absurd many
many_same (Ok ((Some groups, x), after)) (Err refusal) many = absurd many
many_same (Err refusal) (Err other) many = ap Err (sym many)
many_same (Err refusal) (Ok found) many = absurd many

-- with one more value before the others
abbrev capped_first : {X : Type 0} → X → Capped (List X) → Capped (List X)
capped_first x r = go_on r (λ (all, xs). accept (all, x ∷ xs))

abbrev with_first : {X : Type 0} → X → Whole (List X) → Whole (List X)
with_first x s = go_on s (λ (all, xs). accept (all, x ∷ xs))

first_many : {X : Type 0} (x y : X) (r : Capped (List X)) (s : Whole (List X)) → AreMany r s → AreMany (capped_first x r) (with_first y s)
first_many x y (Ok ((None, xs), after)) (Ok ((groups, ys), end)) many = many
first_many x y (Ok ((None, xs), after)) (Err refusal) many = absurd many
first_many x y (Ok ((Some groups, xs), after)) (Ok found) many = absurd many
first_many x y (Ok ((Some groups, xs), after)) (Err refusal) many = absurd many
first_many x y (Err refusal) (Err other) many = many
first_many x y (Err refusal) (Ok found) many = absurd many

first_same : {X : Type 0} (x : X) (r : Capped (List X)) (s : Whole (List X)) → AreSame r s → AreSame (capped_first x r) (with_first x s)
first_same x (Ok ((Some groups, xs), after)) s same = ap (with_first x) same
first_same x (Ok ((None, xs), after)) s many = many_same (capped_first x (Ok ((None, xs), after))) (with_first x s) (first_many x x (Ok ((None, xs), after)) s many)
first_same x (Err refusal) s same = ap (with_first x) same

-- the first, and what comes behind it
module _ (X : Type 0) (capped_next : Option (List Group) → Progress → Capped (List X)) (next : List Group → Progress → Whole (List X)) where
  abbrev capped_rest : Capped X → Capped (List X)
  capped_rest r = go_on r (λ (more, x). λ after. capped_first x (capped_next more after))

  abbrev rest : Whole X → Whole (List X)
  rest s = go_on s (λ (more, x). λ after. with_first x (next more after))

  rest_many : ((groups : List Group) (before start : Progress) → MAX_COLUMNS < length groups → before.relations ≡ start.relations → AreMany (capped_next None before) (next groups start))
      → (r : Capped X) (s : Whole X) → AreMany r s → AreMany (capped_rest r) (rest s)
  rest_many k (Ok ((None, x), after)) (Ok ((groups, y), end)) many = first_many x y (capped_next None after) (next groups end) (k groups after end many.0 many.1)
  rest_many k (Ok ((None, x), after)) (Err refusal) many = absurd many
  rest_many k (Ok ((Some groups, x), after)) (Ok found) many = absurd many
  rest_many k (Ok ((Some groups, x), after)) (Err refusal) many = absurd many
  rest_many k (Err refusal) (Err other) many = many
  rest_many k (Err refusal) (Ok found) many = absurd many

  rest_same : ((groups : List Group) (before start : Progress) → MAX_COLUMNS < length groups → before.relations ≡ start.relations → AreMany (capped_next None before) (next groups start))
      → ((groups : List Group) (before : Progress) → AreSame (capped_next (Some groups) before) (next groups before))
      → (r : Capped X) (s : Whole X) → AreSame r s → AreSame (capped_rest r) (rest s)
  rest_same k k' (Ok ((Some groups, x), after)) s same =
      subst (λ one. AreSame (capped_rest (Ok ((Some groups, x), after))) (rest one)) (sym same) (first_same x (capped_next (Some groups) after) (next groups after) (k' groups after))
  rest_same k k' (Ok ((None, x), after)) s many =
      many_same (capped_rest (Ok ((None, x), after))) (rest s) (rest_many k (Ok ((None, x), after)) s many)
  rest_same k k' (Err refusal) s same = ap rest same

module _ (scope : Scope) where
  -- an expression behind too many groups
  placed_many : (groups : List Group) (node : ℕ) (group : Group) (after end : Progress) (o : Option ℕ) → MAX_COLUMNS < length groups → after.relations ≡ end.relations
      → AreMany {X = ℕ} (Ok ((None, 0), after)) (let next : Checking (List Group × ℕ) = elim o [ Some place ↦ found_at groups node place | None ↦ accept (groups ++ group ∷ [], length groups) ] in next end)
  placed_many groups node group after end (Some place) many same = (many, same)
  placed_many groups node group after end None many same = (omega (arith, many, length-append groups (group ∷ [])), same)

  expr_many : (groups : List Group) (start : Progress) (r s : Result (Expr × Progress) Refusal) → MAX_COLUMNS < length groups → AreAlike r s
      → AreMany {X = ℕ} (go_on r (λ expr. accept (None, 0))) (go_on s (λ expr end. placed groups start.nodes (record { expr = expr; holds_subquery = not (start.relations == end.relations) }) end))
  expr_many groups start (Ok (expr, after)) (Ok (other, end)) many alike =
      let group : Group = record { expr = other; holds_subquery = not (start.relations == end.relations) } in
      placed_many groups start.nodes group after end (position (is_same_group group) groups) many alike.1
  expr_many groups start (Ok (expr, after)) (Err refusal) many alike = absurd alike
  expr_many groups start (Err refusal) (Err other) many alike = alike
  expr_many groups start (Err refusal) (Ok found) many alike = absurd alike

  group_many : (written : Expression) → IsBlindExpr written → (groups : List Group) (before start : Progress) → MAX_COLUMNS < length groups → before.relations ≡ start.relations
      → AreMany (capped_group_in scope None written before) (group_in scope groups written start)
  group_many written blind groups before start many same =
      expr_many groups start (written.check scope before) (written.check scope start) many ((blind scope).at before start same)

  -- the groups so far are few, and may be too many with one more
  counted : (groups : List Group) (place : ℕ) (after : Progress) (test : Bool) → nat_le (length groups) MAX_COLUMNS ≡ test
      → AreSame (Ok ((cond test (Some groups) None, place), after)) (Ok ((groups, place), after))
  counted groups place after true few = refl
  counted groups place after false many = (grind (arith, nat_tests), refl)

  group_counted : (s : Result ((List Group × ℕ) × Progress) Refusal) → AreSame (go_on s (λ (more, place). accept (few_groups more, place))) s
  group_counted (Ok ((groups, place), after)) = counted groups place after (nat_le (length groups) MAX_COLUMNS) refl
  group_counted (Err refusal) = refl

  group_same : (written : Expression) (groups : List Group) (before : Progress) → AreSame (capped_group_in scope (Some groups) written before) (group_in scope groups written before)
  group_same written groups before = group_counted (group_in scope groups written before)

  -- the expressions of a grouping
  set_many : (written : List Expression) → AllByRecursion IsBlindExpr written → (groups : List Group) (before start : Progress) → MAX_COLUMNS < length groups → before.relations ≡ start.relations
      → AreMany (capped_set_in scope None written before) (set_in scope groups written start)
  set_many [] blind groups before start many same = (many, same)
  set_many (first ∷ others) blind groups before start many same =
      rest_many ℕ (λ more. capped_set_in scope more others) (λ more. set_in scope more others) (set_many others blind.1)
      (capped_group_in scope None first before) (group_in scope groups first start) (group_many first blind.0 groups before start many same)

  set_same : (written : List Expression) → AllByRecursion IsBlindExpr written → (groups : List Group) (before : Progress) → AreSame (capped_set_in scope (Some groups) written before) (set_in scope groups written before)
  set_same [] blind groups before = refl
  set_same (first ∷ others) blind groups before =
      rest_same ℕ (λ more. capped_set_in scope more others) (λ more. set_in scope more others) (set_many others blind.1) (set_same others blind.1)
      (capped_group_in scope (Some groups) first before) (group_in scope groups first before) (group_same first groups before)

  -- the groupings
  sets_many : (written : List Sets) → AllByRecursion AreBlindSets written → (groups : List Group) (before start : Progress) → MAX_COLUMNS < length groups → before.relations ≡ start.relations
      → AreMany (capped_sets_in scope None written before) (sets_in scope groups written start)
  sets_many [] blind groups before start many same = (many, same)
  sets_many (first ∷ others) blind groups before start many same =
      rest_many (List ℕ) (λ more. capped_sets_in scope more others) (λ more. sets_in scope more others) (sets_many others blind.1)
      (capped_set_in scope None first.expressions before) (set_in scope groups first.expressions start) (set_many first.expressions blind.0 groups before start many same)

  sets_same : (written : List Sets) → AllByRecursion AreBlindSets written → (groups : List Group) (before : Progress) → AreSame (capped_sets_in scope (Some groups) written before) (sets_in scope groups written before)
  sets_same [] blind groups before = refl
  sets_same (first ∷ others) blind groups before =
      rest_same (List ℕ) (λ more. capped_sets_in scope more others) (λ more. sets_in scope more others) (sets_many others blind.1) (sets_same others blind.1)
      (capped_set_in scope (Some groups) first.expressions before) (set_in scope groups first.expressions before) (set_same first.expressions blind.0 groups before)

-- a relation of too many columns is refused
many_refused : (number : ℕ) (common : Option RelCommon) (op : Op) (direct : List Ty) (end : Progress) → MAX_COLUMNS < length direct → Err (record { relation = number; rule = rules.TooMany }) ≡ finished number common op direct end
many_refused number common op direct end many = rw (not_few (length direct) many) refl

long_columns : (found : Groups) (measures : List SetMeasure) → length found.groups ≤ length (aggregate_columns found measures)
long_columns found measures =
    let groups = map (group_type found.sets) (enumerate_from 0 found.groups) in
    let types = map (λ (one : SetMeasure). one.measure.ty) measures in
    let all : length (aggregate_columns found measures) ≡ length (groups ++ types) + length (number_column found.sets) = length-append (groups ++ types) (number_column found.sets) in
    omega (arith, all, length-append groups types, length_mapped (group_type found.sets) (enumerate_from 0 found.groups), length-enumerate_from 0 found.groups)

module _ (number : ℕ) (common : Option RelCommon) (rel : Rel) (measures : List (Scope → Checking SetMeasure)) (all : AllByRecursion IsBlindMeasure measures) where
  abbrev checks : List (Checking SetMeasure)
  checks = map (λ one. one (over number (columns_of rel))) measures

  abbrev whole_with : Groups → Checking Rel
  whole_with found progress = go_on (in_order checks progress) (λ checked. finished number common (aggregate_op rel found checked) (aggregate_columns found checked))

  measures_many : (found : Groups) (r s : Result (List SetMeasure × Progress) Refusal) → MAX_COLUMNS < length found.groups → AreAlike r s
      → go_on {B = Rel} r (λ checked. λ progress. Err (record { relation = number; rule = rules.TooMany })) ≡ go_on s (λ checked. finished number common (aggregate_op rel found checked) (aggregate_columns found checked))
  measures_many found (Ok (checked, after)) (Ok (others, end)) many alike =
      many_refused number common (aggregate_op rel found others) (aggregate_columns found others) end (omega (arith, many, long_columns found others))
  measures_many found (Ok (checked, after)) (Err refusal) many alike = absurd alike
  measures_many found (Err refusal) (Err other) many alike = ap Err alike
  measures_many found (Err refusal) (Ok others) many alike = absurd alike

  with_many : (found : Groups) (after end : Progress) → MAX_COLUMNS < length found.groups → after.relations ≡ end.relations → too_many number rel measures after ≡ whole_with found end
  with_many found after end many same =
      measures_many found (in_order checks after) (in_order checks end) many ((each_alike IsBlindMeasure (λ one. one (over number (columns_of rel))) measures all (λ one blind. blind (over number (columns_of rel)))).at after end same)

  -- what follows several groupings
  several_with : (r : Result ((Option (List Group) × List (List ℕ)) × Progress) Refusal) (s : Result ((List Group × List (List ℕ)) × Progress) Refusal) → AreSame r s
      → go_on (go_on r (λ (groups, sets). accept (option_map (groups_with sets) groups))) (λ found. capped_with number common rel found measures) ≡ go_on (go_on s (λ (groups, sets). accept (groups_with sets groups))) whole_with
  several_with (Ok ((Some groups, sets), after)) s same = sym (ap (λ one. go_on (go_on one (λ (groups, sets). accept (groups_with sets groups))) whole_with) same)
  several_with (Ok ((None, sets), after)) (Ok ((groups, others), end)) many =
      with_many (groups_with others groups) after end (omega (arith, many.0, length_mapped (λ (group : Group). group.expr) groups)) many.1
  several_with (Ok ((None, sets), after)) (Err refusal) many = absurd many
  several_with (Err refusal) s same = sym (ap (λ one. go_on (go_on one (λ (groups, sets). accept (groups_with sets groups))) whole_with) same)

  -- and what follows groups that are kept
  kept_with : (r : Result (Groups × Progress) Refusal) → go_on (go_on r (λ found. accept (Some found))) (λ found. capped_with number common rel found measures) ≡ go_on r whole_with
  kept_with (Ok (found, after)) = refl
  kept_with (Err refusal) = refl

  groups_same : (expressions : List Expression) (groupings : List Sets) → AllByRecursion AreBlindSets groupings → (before : Progress)
      → capped_over number common rel groupings measures expressions before ≡ aggregate_over number common rel groupings measures expressions before
  groups_same [] [] blind before = kept_with (written_out (over number (columns_of rel)) [] before)
  groups_same [] (one ∷ []) blind before = kept_with (written_out (over number (columns_of rel)) (one ∷ []) before)
  groups_same [] (one ∷ two ∷ others) blind before =
      let scope = over number (columns_of rel) in
      several_with (capped_sets_in scope (Some []) (one ∷ two ∷ others) before) (sets_in scope [] (one ∷ two ∷ others) before) (sets_same scope (one ∷ two ∷ others) blind [] before)
  groups_same (first ∷ others) groupings blind before = kept_with (referred (over number (columns_of rel)) (first ∷ others) groupings before)

-- the groupings and the measures of a plan
all_blind : {A B : Type 0} (P : B → Type 0) (f : A → B) (xs : List A) → ((x : A) → P (f x)) → AllByRecursion P (map f xs)
all_blind P f [] k = tt
all_blind P f (x ∷ xs) k = (k x, all_blind P f xs k)

pub capped_is_whole : (terms : Terms) (number : ℕ) (common : Option RelCommon) (rel : Rel) (groupings : List Grouping) (measures : List Measure) (expressions : List Expression) (before : Progress)
    → capped_over number common rel (map (checked_grouping terms) groupings) (map (checked_measure terms) measures) expressions before ≡ aggregate_over number common rel (map (checked_grouping terms) groupings) (map (checked_measure terms) measures) expressions before
capped_is_whole terms number common rel groupings measures expressions before =
    groups_same number common rel (map (checked_measure terms) measures) (all_blind IsBlindMeasure (checked_measure terms) measures (every_measure_alike terms)) expressions
    (map (checked_grouping terms) groupings) (all_blind AreBlindSets (checked_grouping terms) groupings (every_grouping_alike terms)) before
