-- An aggregate relation is well typed.
use Rattle.std.proofs.Common.{arith, ◌≤◌, ◌≡◌, ℕ, ◌+◌, List, [], ◌∷◌, ◌++◌, Bool, true, false, cond, Option, map, refl, sym, subst}
use Rattle.std.specs.Prelude.{length, ◌&&◌, not, nat_le}
use Rattle.std.specs.List.{AllByRecursion, list_all, list_any, enumerate_from}
use Rattle.std.proofs.lemmas.Bool.{and_parts}
use Rattle.std.proofs.lemmas.Bool.Decides.{nat_tests}
use Rattle.sub_types.specs.declared.kind.Ty.{Ty}
use Rattle.plan_leaves.specs.declared.common.RelCommon.{RelCommon}
use Rattle.plan_typed.specs.declared.expr.Expr.{Expr}
use Rattle.plan_typed.specs.declared.rel.Op.TheOpen.{Op-F}
use Rattle.plan_typed.specs.declared.rel.Op.TheVariants as ops
use Rattle.plan_typed.specs.declared.rel.Rel.{Rel}
use Rattle.plan_typed.specs.declared.rel.SetMeasure.{SetMeasure}
use Rattle.plan_typed.specs.declared.rel.TypedMeasure.{TypedMeasure}
use Rattle.plan_typed.specs.Numbers.{numbers_of}
use Rattle.plan_typed.specs.Types.{ty_of, columns_of}
use Rattle.well_typed.specs.Columns.{has_place, group_type, number_column}
use Rattle.well_typed.specs.WellTyped.{MayBe, AreTyped, AreAll, IsMeasureOver, IsSetMeasureOver}
use Rattle.well_typed.proofs.ValidColumns.{typed_columns}
use Rattle.well_typed.proofs.MadeRel.{all_same, all_append}
use Rattle.plan_verdict.specs.declared.groups.Groups.{Groups}
use Rattle.plan_verdict.specs.declared.rule.Rule.TheVariants as rules
use Rattle.plan_verdict.specs.Aggregates.{MAX_GROUPINGS, aggregate, aggregate_columns}
use Rattle.plan_verdict.specs.Checking.{Checking}
use Rattle.plan_verdict.specs.Meaning.{Scope, Expression, Sets}
use Rattle.plan_verdict.specs.Relation.{finished}
use Rattle.plan_verdict.specs.Rels.{over}
use Rattle.plan_verdict.proofs.AggregateLaws.{IsSoundMeasure}
use Rattle.plan_verdict.proofs.ExprLaws.{IsSoundExpr, either_nullable}
use Rattle.plan_verdict.proofs.GroupLaws.{AreSoundSets, AreGroups, groups_sound}
use Rattle.plan_verdict.proofs.NumberLaws.{IsSoundRel, input_sound}
use Rattle.plan_verdict.proofs.RelLaws.{finished_sound, one_input}
use Rattle.plan_verdict.proofs.Sound.{Sound, then, and_then, tested, each_sound}

-- a group's column is as its expression implies
groups_as : (sets : List (List ℕ)) (place : ℕ) (groups : List Expr) → AreAll (map ty_of groups) (map (group_type sets) (enumerate_from place groups))
groups_as sets place [] = tt
groups_as sets place (group ∷ groups) =
    (record { kind = refl; nullable = either_nullable (ty_of group).nullable (not (list_all (has_place place) sets)) }, groups_as sets (place + 1) groups)

-- the columns of measures
measures_as : (measures : List SetMeasure) → AreAll (map (λ (one : TypedMeasure). one.ty) (map (λ (one : SetMeasure). one.measure) measures)) (map (λ (one : SetMeasure). one.measure.ty) measures)
measures_as [] = tt
measures_as (one ∷ measures) = (record { kind = refl; nullable = λ h. h }, measures_as measures)

-- columns that no number of the set follows
none_follows : (implied given last : List Ty) → AreAll implied given → last ≡ [] → AreAll implied (given ++ last)
none_follows [] [] last all e = subst (λ l. AreAll [] l) (sym e) tt
none_follows [] (y ∷ ys) last all e = absurd all
none_follows (x ∷ xs) [] last all e = absurd all
none_follows (x ∷ xs) (y ∷ ys) last all e = (all.0, none_follows xs ys last all.1 e)

no_number : {A : Type 0} (test : Bool) (column : List A) → test ≡ true → cond test [] column ≡ []
no_number true column e = refl
no_number false column e = absurd cc

few_groupings : (count : ℕ) (test : Bool) → nat_le count MAX_GROUPINGS ≡ test → test ≡ true → count ≤ MAX_GROUPINGS
few_groupings count true e h = grind (arith, nat_tests)
few_groupings count false e h = absurd cc

measures_only : (columns : List Ty) (measures : List SetMeasure) → AllByRecursion (IsSetMeasureOver columns) measures → AllByRecursion (IsMeasureOver columns) (map (λ (one : SetMeasure). one.measure) measures)
measures_only columns [] all = tt
measures_only columns (one ∷ measures) all = (all.0.measure, measures_only columns measures all.1)

module _ (number : ℕ) (common : Option RelCommon) (rel : Rel) (extra : List ℕ) (typed : AreTyped rel) where
  abbrev held : List ℕ
  held = numbers_of rel ++ (number ∷ extra)

  -- the aggregate over one set of all groups, or over several sets
  op_sound : (found : Groups) (measures : List SetMeasure) (plain : Bool) → AreGroups (over number (columns_of rel)) found → AllByRecursion (IsSetMeasureOver (columns_of rel)) measures
      → (nat_le (length found.sets) 1 && not (list_any (λ (one : SetMeasure). one.distinct) measures)) ≡ plain
      → Sound AreTyped (λ r. numbers_of r ++ extra) held
      (finished number common (cond plain (ops.Aggregate rel found.groups (map (λ (one : SetMeasure). one.measure) measures)) (ops.GroupSets rel found.groups found.sets measures)) (aggregate_columns found measures))
  op_sound found measures true groups all e =
      let only = map (λ (one : SetMeasure). one.measure) measures in
      let columns = map (group_type found.sets) (enumerate_from 0 found.groups) in
      let types = map (λ (one : SetMeasure). one.measure.ty) measures in
      let one_set = (and_parts (nat_le (length found.sets) 1) (not (list_any (λ (one : SetMeasure). one.distinct) measures)) e).0 in
      let numbers = no_number (nat_le (length found.sets) 1) _ one_set in
      finished_sound number common (ops.Aggregate rel found.groups only) (aggregate_columns found measures) (Op-F.Aggregate rel found.groups only) (ops.rolls-Aggregate rel found.groups only) held extra
      typed (groups.typed, measures_only (columns_of rel) measures all)
      (none_follows (map ty_of found.groups ++ map (λ (one : TypedMeasure). one.ty) only) (columns ++ types) (number_column found.sets)
      (all_append (map ty_of found.groups) columns (map (λ (one : TypedMeasure). one.ty) only) types (groups_as found.sets 0 found.groups) (measures_as measures)) numbers)
      (λ n. one_input number common n (numbers_of rel) extra)
  op_sound found measures false groups all e =
      finished_sound number common (ops.GroupSets rel found.groups found.sets measures) (aggregate_columns found measures) (Op-F.GroupSets rel found.groups found.sets measures)
      (ops.rolls-GroupSets rel found.groups found.sets measures) held extra typed (groups.typed, groups.below, groups.some, groups.few, all) (all_same (aggregate_columns found measures)) (λ n. one_input number common n (numbers_of rel) extra)

module _ (number : ℕ) (common : Option RelCommon) where
  pub aggregate_sound : (written : Option (ℕ → Checking Rel)) (groupings : List Sets) (measures : List (Scope → Checking SetMeasure)) (expressions : List Expression) → MayBe IsSoundRel written → AllByRecursion AreSoundSets groupings
      → AllByRecursion IsSoundMeasure measures → AllByRecursion IsSoundExpr expressions → (extra : List ℕ) → Sound AreTyped (λ rel. numbers_of rel ++ extra) (number ∷ extra) (aggregate number common written groupings measures expressions)
  aggregate_sound written groupings measures expressions s sets all ok extra =
      then (input_sound (number ∷ extra) number written s) (λ rel typed.
      let held = numbers_of rel ++ (number ∷ extra) in
      let scope = over number (columns_of rel) in
      and_then (tested held number (nat_le (length groupings) MAX_GROUPINGS) rules.TooMany) (λ _ test.
      then (groups_sound scope (typed_columns rel typed) expressions groupings (few_groupings (length groupings) (nat_le (length groupings) MAX_GROUPINGS) refl test) ok sets held) (λ found groups.
      then (each_sound (IsSetMeasureOver (columns_of rel)) IsSoundMeasure (λ one. one scope) measures all (λ one q. q scope (typed_columns rel typed)) held) (λ checked p.
      op_sound number common rel extra typed found checked (nat_le (length found.sets) 1 && not (list_any (λ (one : SetMeasure). one.distinct) checked)) groups p.0 refl))))
