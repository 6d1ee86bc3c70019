-- What is well typed over some types is so over any that imply them: of the same kinds, and nullable at most where they are.
use Rattle.std.proofs.Common.{◌≡◌, ◌∙◌, ℕ, zero, suc, List, [], ◌∷◌, Option, Some, None, map, refl, sym, ap₂, subst}
use Rattle.std.specs.Prelude.{slice_get}
use Rattle.std.specs.List.{AllByRecursion}
use Rattle.sub_types.specs.declared.kind.Ty.{Ty}
use Rattle.sub_types.specs.declared.value.Value.{Value}
use Rattle.plan_typed.specs.declared.expr.Expr.{Expr, Expr-F, out-Expr, roll-Expr, out-roll-Expr, roll-out-Expr, map-Expr}
use Rattle.plan_typed.specs.declared.expr.Expr.TheFolds.{ind-Expr, every_here-Expr, every_held-Expr}
use Rattle.plan_typed.specs.declared.expr.Expr.TheVariants.{rolls-Const, rolls-Column, rolls-Call, rolls-If, rolls-Switch, rolls-OneOf, rolls-Cast}
use Rattle.plan_typed.specs.declared.rel.JoinKind.{JoinKind}
use Rattle.plan_typed.specs.declared.rel.JoinKind.TheVariants as joins
use Rattle.plan_typed.specs.declared.rel.SetMeasure.{SetMeasure}
use Rattle.plan_typed.specs.declared.rel.TypedMeasure.{TypedMeasure}
use Rattle.well_typed.proofs.Made.{const_typed, column_typed, call_typed, if_typed, switch_typed, one_of_typed, cast_typed}
use Rattle.well_typed.proofs.MadeRel.{all_same, all_append}
use Rattle.well_typed.proofs.ValidKinds.{With, all_held, all_both}
use Rattle.well_typed.specs.Columns.{join_columns, nullable}
use Rattle.well_typed.specs.ExprTyped.{IsAs, IsNode, IsTypedOver}
use Rattle.well_typed.specs.WellTyped.{AreAll, IsConditionOver, IsMeasureOver, IsSetMeasureOver, MayBe}
use Rattle.join_columns.specs.Sides.{kinds_of}
use Rattle.denote_typed.proofs.RowsLaws.{weakened}

-- types as others imply
as_next : (a b c : Ty) → IsAs a b → IsAs b c → IsAs a c
as_next a b c first second = record { kind = second.kind ∙ first.kind; nullable = λ null. second.nullable (first.nullable null) }

pub all_next : (a b c : List Ty) → AreAll a b → AreAll b c → AreAll a c
all_next [] [] c first second = second
all_next [] (y ∷ ys) c first second = absurd first
all_next (x ∷ xs) [] c first second = absurd first
all_next (x ∷ xs) (y ∷ ys) [] first second = absurd second
all_next (x ∷ xs) (y ∷ ys) (z ∷ zs) first second = (as_next x y z first.0 second.0, all_next xs ys zs first.1 second.1)

-- they are of the same kinds
pub all_kinds : (implied given : List Ty) → AreAll implied given → kinds_of implied ≡ kinds_of given
all_kinds [] [] all = refl
all_kinds [] (y ∷ ys) all = absurd all
all_kinds (x ∷ xs) [] all = absurd all
all_kinds (x ∷ xs) (y ∷ ys) all = ap₂ (λ kind kinds. kind ∷ kinds) (sym all.0.kind) (all_kinds xs ys all.1)

all_nullable : (implied given : List Ty) → AreAll implied given → AreAll (nullable implied) (nullable given)
all_nullable [] [] all = tt
all_nullable [] (y ∷ ys) all = absurd all
all_nullable (x ∷ xs) [] all = absurd all
all_nullable (x ∷ xs) (y ∷ ys) all = (record { kind = all.0.kind; nullable = λ null. null }, all_nullable xs ys all.1)

-- the columns of a join whose left columns are as implied
pub all_joined : (kind : JoinKind) (implied left right : List Ty) → AreAll implied left → AreAll (join_columns kind implied right) (join_columns kind left right)
all_joined joins.Inner implied left right all = all_append implied left right right all (all_same right)
all_joined joins.Outer implied left right all = all_append (nullable implied) (nullable left) (nullable right) (nullable right) (all_nullable implied left all) (all_same (nullable right))
all_joined joins.Left implied left right all = all_append implied left (nullable right) (nullable right) all (all_same (nullable right))
all_joined joins.Right implied left right all = all_append (nullable implied) (nullable left) right right (all_nullable implied left all) (all_same right)
all_joined joins.LeftSemi implied left right all = all
all_joined joins.LeftAnti implied left right all = all

some_same : (a b : Ty) → Some a ≡ Some b → a ≡ b
some_same a b same = cc

-- a column of the one is one of the other
column_implied : (implied given : List Ty) (index : ℕ) (column ty : Ty) → AreAll implied given → slice_get given index ≡ Some column → IsAs column ty → (found : Ty) × (slice_get implied index ≡ Some found) × IsAs found ty
column_implied [] [] index column ty all is fits = (column, is, fits)
column_implied [] (y ∷ ys) index column ty all is fits = absurd all
column_implied (x ∷ xs) [] index column ty all is fits = absurd all
column_implied (x ∷ xs) (y ∷ ys) zero column ty all is fits = (x, refl, as_next x y ty all.0 (subst (λ (one : Ty). IsAs one ty) (sym (some_same y column is)) fits))
column_implied (x ∷ xs) (y ∷ ys) (suc index) column ty all is fits = column_implied xs ys index column ty all.1 is fits

-- what holds of the parts of an expression
abbrev Inside : (Expr → Type 0) → Expr-F Expr → Type 0
Inside P (Expr-F.Const value ty) = Unit {0}
Inside P (Expr-F.Column index ty) = Unit {0}
Inside P (Expr-F.Call func mode args ty) = AllByRecursion P args
Inside P (Expr-F.If arms other ty) = AllByRecursion (λ (arm : Expr × Expr). P arm.0 × P arm.1) arms × P other
Inside P (Expr-F.Switch subject arms other ty) = P subject × AllByRecursion (λ (arm : Value × Expr). P arm.1) arms × P other
Inside P (Expr-F.OneOf value options ty) = P value × AllByRecursion P options
Inside P (Expr-F.Cast input null_on_fail ty) = P input

arms_held : (P : Expr → Type 0) (arms : List (With P × With P)) → AllByRecursion (λ (arm : Expr × Expr). P arm.0 × P arm.1) (map (λ arm. (arm.0.0, arm.1.0)) arms)
arms_held P [] = tt
arms_held P (arm ∷ arms) = ((arm.0.1, arm.1.1), arms_held P arms)

choices_held : (P : Expr → Type 0) (arms : List (Value × With P)) → AllByRecursion (λ (arm : Value × Expr). P arm.1) (map (λ arm. (arm.0, arm.1.0)) arms)
choices_held P [] = tt
choices_held P (arm ∷ arms) = (arm.1.1, choices_held P arms)

held_inside : (P : Expr → Type 0) (z : Expr-F (With P)) → Inside P (map-Expr (With P) Expr (λ e. e.0) z)
held_inside P (Expr-F.Const value ty) = tt
held_inside P (Expr-F.Column index ty) = tt
held_inside P (Expr-F.Call func mode args ty) = all_held P args
held_inside P (Expr-F.If arms other ty) = (arms_held P arms, other.1)
held_inside P (Expr-F.Switch subject arms other ty) = (subject.1, choices_held P arms, other.1)
held_inside P (Expr-F.OneOf value options ty) = (value.1, all_held P options)
held_inside P (Expr-F.Cast input null_on_fail ty) = input.1

both_inside : (P Q R : Expr → Type 0) (level : Expr-F Expr) → ((one : Expr) → P one → Q one → R one) → Inside P level → Inside Q level → Inside R level
both_inside P Q R (Expr-F.Const value ty) k first second = tt
both_inside P Q R (Expr-F.Column index ty) k first second = tt
both_inside P Q R (Expr-F.Call func mode args ty) k first second = all_both P Q R args k first second
both_inside P Q R (Expr-F.If arms other ty) k first second = (
  all_both (λ (arm : Expr × Expr). P arm.0 × P arm.1) (λ (arm : Expr × Expr). Q arm.0 × Q arm.1) (λ (arm : Expr × Expr). R arm.0 × R arm.1) arms (λ arm one two. (k arm.0 one.0 two.0, k arm.1 one.1 two.1)) first.0 second.0,
  k other first.1 second.1,
)
both_inside P Q R (Expr-F.Switch subject arms other ty) k first second =
    (k subject first.0 second.0, all_both (λ (arm : Value × Expr). P arm.1) (λ (arm : Value × Expr). Q arm.1) (λ (arm : Value × Expr). R arm.1) arms (λ arm. k arm.1) first.1 second.1, k other first.2 second.2)
both_inside P Q R (Expr-F.OneOf value options ty) k first second = (k value first.0 second.0, all_both P Q R options k first.1 second.1)
both_inside P Q R (Expr-F.Cast input null_on_fail ty) k first second = k input first second

module _ (implied given : List Ty) (all : AreAll implied given) where
  -- one node: only a column looks at the types
  node_implied : (level : Expr-F Expr) → IsNode given level → IsNode implied level
  node_implied (Expr-F.Const value ty) node = node
  node_implied (Expr-F.Column index ty) node = column_implied implied given index node.0 ty all node.1 node.2
  node_implied (Expr-F.Call func mode args ty) node = node
  node_implied (Expr-F.If arms other ty) node = node
  node_implied (Expr-F.Switch subject arms other ty) node = node
  node_implied (Expr-F.OneOf value options ty) node = node
  node_implied (Expr-F.Cast input null_on_fail ty) node = node

  abbrev Typed : Expr → Type 0
  Typed expr = IsTypedOver implied expr

  -- a level of well-typed parts, by the variant that it rolls into
  level_typed : (level : Expr-F Expr) → IsNode implied level → Inside Typed level → Typed (roll-Expr level)
  level_typed (Expr-F.Const value ty) node inside = subst Typed (sym (rolls-Const value ty)) (const_typed implied value ty node)
  level_typed (Expr-F.Column index ty) node inside = subst Typed (sym (rolls-Column index ty)) (column_typed implied index ty node)
  level_typed (Expr-F.Call func mode args ty) node inside = subst Typed (sym (rolls-Call func mode args ty)) (call_typed implied func mode args ty inside node)
  level_typed (Expr-F.If arms other ty) node inside = subst Typed (sym (rolls-If arms other ty)) (if_typed implied arms other ty inside.0 inside.1 node)
  level_typed (Expr-F.Switch subject arms other ty) node inside = subst Typed (sym (rolls-Switch subject arms other ty)) (switch_typed implied subject arms other ty inside.0 inside.1 inside.2 node)
  level_typed (Expr-F.OneOf value options ty) node inside = subst Typed (sym (rolls-OneOf value options ty)) (one_of_typed implied value options ty inside.0 inside.1 node)
  level_typed (Expr-F.Cast input null_on_fail ty) node inside = subst Typed (sym (rolls-Cast input null_on_fail ty)) (cast_typed implied input null_on_fail ty inside node)

  abbrev Claim : Expr → Type 0
  Claim expr = IsTypedOver given expr → Typed expr

  -- a well-typed expression
  pub typed_implied : (expr : Expr) → IsTypedOver given expr → IsTypedOver implied expr
  typed_implied = ind-Expr Claim (λ x y is typed.
      let level = out-Expr (roll-Expr x) in
      let held = every_held-Expr (IsNode given) (roll-Expr x) typed in
      let parts = subst (Inside (IsTypedOver given)) held.1 (held_inside (IsTypedOver given) held.0) in
      let claims = subst (Inside Claim) (is ∙ sym (out-roll-Expr x)) (held_inside Claim y) in
      let inside = both_inside Claim (IsTypedOver given) Typed level (λ one claim known. claim known) claims parts in
      subst Typed (roll-out-Expr (roll-Expr x)) (level_typed level (node_implied level (every_here-Expr (IsNode given) (roll-Expr x) typed)) inside))

  pub exprs_implied : (exprs : List Expr) → AllByRecursion (IsTypedOver given) exprs → AllByRecursion (IsTypedOver implied) exprs
  exprs_implied exprs typed = weakened (IsTypedOver given) (IsTypedOver implied) exprs typed typed_implied

  pub condition_implied : (expr : Expr) → IsConditionOver given expr → IsConditionOver implied expr
  condition_implied expr condition = (typed_implied expr condition.0, condition.1)

  pub conditions_implied : (exprs : List Expr) → AllByRecursion (IsConditionOver given) exprs → AllByRecursion (IsConditionOver implied) exprs
  conditions_implied exprs conditions = weakened (IsConditionOver given) (IsConditionOver implied) exprs conditions condition_implied

  maybe_implied : (P Q : Expr → Type 0) (maybe : Option Expr) → ((one : Expr) → P one → Q one) → MayBe P maybe → MayBe Q maybe
  maybe_implied P Q None k holds = tt
  maybe_implied P Q (Some expr) k holds = k expr holds

  measure_implied : (one : TypedMeasure) → IsMeasureOver given one → IsMeasureOver implied one
  measure_implied one measure = record {
    entry = measure.entry;
    call = measure.call;
    arg = maybe_implied (IsTypedOver given) (IsTypedOver implied) one.arg typed_implied measure.arg;
    filter = maybe_implied (IsConditionOver given) (IsConditionOver implied) one.filter condition_implied measure.filter;
  }

  pub measures_implied : (measures : List TypedMeasure) → AllByRecursion (IsMeasureOver given) measures → AllByRecursion (IsMeasureOver implied) measures
  measures_implied measures typed = weakened (IsMeasureOver given) (IsMeasureOver implied) measures typed measure_implied

  pub set_measures_implied : (measures : List SetMeasure) → AllByRecursion (IsSetMeasureOver given) measures → AllByRecursion (IsSetMeasureOver implied) measures
  set_measures_implied measures typed =
      weakened (IsSetMeasureOver given) (IsSetMeasureOver implied) measures typed (λ one measure. record { measure = measure_implied one.measure measure.measure; distinct = measure.distinct })
