-- The columns of well-typed relations are of valid kinds.
use Rattle.std.proofs.Common.{◌∙◌, ℕ, ◌+◌, List, [], ◌∷◌, ◌++◌, Option, Some, None, map, sym, subst}
use Rattle.std.specs.Prelude.{slice_get, nat_le, length, Bool, true, false, cond}
use Rattle.std.specs.List.{AllByRecursion, cons_option, enumerate_from}
use Rattle.std.specs.Option.{option_to_list}
use Rattle.sub_types.specs.Kind.{IsKind}
use Rattle.sub_types.specs.declared.kind.Ty.{Ty}
use Rattle.plan_typed.specs.declared.expr.Expr.{Expr}
use Rattle.plan_typed.specs.declared.rel.JoinKind.{JoinKind}
use Rattle.plan_typed.specs.declared.rel.JoinKind.TheVariants as joins
use Rattle.plan_typed.specs.declared.rel.Op.{Op, out-Op, roll-Op, out-roll-Op, map-Op, every-Op}
use Rattle.plan_typed.specs.declared.rel.Op.TheFolds.{ind-Rel, every_here-Rel, every_held-Op, every_held-Rel}
use Rattle.plan_typed.specs.declared.rel.Op.TheOpen.{Op-F}
use Rattle.plan_typed.specs.declared.rel.Rel.{Rel, Rel-F, out-Rel, roll-Rel, out-roll-Rel}
use Rattle.plan_typed.specs.declared.rel.SetMeasure.{SetMeasure}
use Rattle.plan_typed.specs.declared.rel.SetOp.{SetOp}
use Rattle.plan_typed.specs.declared.rel.TypedMeasure.{TypedMeasure}
use Rattle.plan_typed.specs.Types.{ty_of, columns_of}
use Rattle.well_typed.specs.Columns.{columns_at, nullable, join_columns, is_nullable_in, is_nullable_at, group_type, number_column}
use Rattle.well_typed.specs.ExprTyped.{IsTypedOver}
use Rattle.well_typed.specs.Types.{kind_of}
use Rattle.well_typed.specs.WellTyped.{MayBe, IsRelation, AreTyped, AreAll, HasParts, IsMeasureOver, IsSetMeasureOver, direct_in, set_columns_of}
use Rattle.well_typed.proofs.ValidKinds.{AreKinds, With, all_held, all_both, kind_at, call_valid, given_valid, typed_kind}

pub append_valid : (a b : List Ty) → AreKinds a → AreKinds b → AreKinds (a ++ b)
append_valid [] b all others = others
append_valid (ty ∷ a) b all others = (all.0, append_valid a b all.1 others)

nullable_valid : (columns : List Ty) → AreKinds columns → AreKinds (nullable columns)
nullable_valid [] all = tt
nullable_valid (column ∷ columns) all = (all.0, nullable_valid columns all.1)

pub join_valid : (kind : JoinKind) (left right : List Ty) → AreKinds left → AreKinds right → AreKinds (join_columns kind left right)
join_valid joins.Inner left right first second = append_valid left right first second
join_valid joins.Outer left right first second = append_valid (nullable left) (nullable right) (nullable_valid left first) (nullable_valid right second)
join_valid joins.Left left right first second = append_valid left (nullable right) first (nullable_valid right second)
join_valid joins.Right left right first second = append_valid (nullable left) right (nullable_valid left first) second
join_valid joins.LeftSemi left right first second = first
join_valid joins.LeftAnti left right first second = first

with_valid : (found : Option Ty) (rest : List Ty) → MayBe (λ (ty : Ty). IsKind ty.kind) found → AreKinds rest → AreKinds (cons_option found rest)
with_valid None rest one all = all
with_valid (Some ty) rest one all = (one, all)

at_valid : (columns : List Ty) (places : List ℕ) → AreKinds columns → AreKinds (columns_at columns places)
at_valid columns [] all = tt
at_valid columns (place ∷ places) all = with_valid (slice_get columns place) (columns_at columns places) (kind_at columns place all) (at_valid columns places all)

given_kinds : (implied given : List Ty) → AreAll implied given → AreKinds implied → AreKinds given
given_kinds [] [] all kinds = tt
given_kinds [] (y ∷ ys) all kinds = absurd all
given_kinds (x ∷ xs) [] all kinds = absurd all
given_kinds (x ∷ xs) (y ∷ ys) all kinds = (subst IsKind (sym all.0.kind) kinds.0, given_kinds xs ys all.1 kinds.1)

types_valid : (columns : List Ty) (exprs : List Expr) → AreKinds columns → AllByRecursion (IsTypedOver columns) exprs → AreKinds (map ty_of exprs)
types_valid columns [] valid all = tt
types_valid columns (expr ∷ exprs) valid all = (typed_kind columns valid expr all.0, types_valid columns exprs valid all.1)

groups_valid : (columns : List Ty) (sets : List (List ℕ)) (place : ℕ) (exprs : List Expr) → AreKinds columns → AllByRecursion (IsTypedOver columns) exprs → AreKinds (map (group_type sets) (enumerate_from place exprs))
groups_valid columns sets place [] valid all = tt
groups_valid columns sets place (expr ∷ exprs) valid all = (typed_kind columns valid expr all.0, groups_valid columns sets (place + 1) exprs valid all.1)

arg_valid : (columns : List Ty) (arg : Option Expr) → AreKinds columns → MayBe (IsTypedOver columns) arg → AllByRecursion (λ e. IsKind (kind_of e)) (option_to_list arg)
arg_valid columns None valid one = tt
arg_valid columns (Some expr) valid one = (typed_kind columns valid expr one, tt)

measure_valid : (columns : List Ty) (measure : TypedMeasure) → AreKinds columns → IsMeasureOver columns measure → IsKind measure.ty.kind
measure_valid columns measure valid is =
    call_valid is.entry.row (map (λ (ty : Ty). ty.kind) (map ty_of (option_to_list measure.arg))) measure.ty.kind (given_valid (option_to_list measure.arg) (arg_valid columns measure.arg valid is.arg)) is.call.result

measures_valid : (columns : List Ty) (measures : List TypedMeasure) → AreKinds columns → AllByRecursion (IsMeasureOver columns) measures → AreKinds (map (λ (one : TypedMeasure). one.ty) measures)
measures_valid columns [] valid all = tt
measures_valid columns (one ∷ measures) valid all = (measure_valid columns one valid all.0, measures_valid columns measures valid all.1)

set_measures_valid : (columns : List Ty) (measures : List SetMeasure) → AreKinds columns → AllByRecursion (IsSetMeasureOver columns) measures → AreKinds (map (λ (one : SetMeasure). one.measure.ty) measures)
set_measures_valid columns [] valid all = tt
set_measures_valid columns (one ∷ measures) valid all = (measure_valid columns one.measure valid all.0.measure, set_measures_valid columns measures valid all.1)

number_valid : (sets : List (List ℕ)) → AreKinds (number_column sets)
number_valid sets = number_where (nat_le (length sets) 1)
  where
    number_where : (test : Bool) → AreKinds (cond test [] (number_column ([] ∷ [] ∷ [])))
    number_where true = tt
    number_where false = (tt, tt)

set_valid : (op : SetOp) (others : List (List Ty)) (place : ℕ) (first : List Ty) → AreKinds first
    → AreKinds (map (λ (numbered : ℕ × Ty). record numbered.1 { nullable = is_nullable_in op numbered.1.nullable (map (is_nullable_at numbered.0) others) }) (enumerate_from place first))
set_valid op others place [] all = tt
set_valid op others place (ty ∷ first) all = (all.0, set_valid op others (place + 1) first all.1)

sets_valid : (op : SetOp) (inputs : List (List Ty)) → AllByRecursion AreKinds inputs → AreKinds (set_columns_of op inputs)
sets_valid op [] all = tt
sets_valid op (first ∷ others) all = set_valid op others 0 first all.0

columns_valid : (inputs : List Rel) → AllByRecursion (λ rel. AreKinds (columns_of rel)) inputs → AllByRecursion AreKinds (map columns_of inputs)
columns_valid [] all = tt
columns_valid (input ∷ inputs) all = (all.0, columns_valid inputs all.1)

-- what holds of the inputs of an operation
abbrev Inputs : (Rel → Type 0) → Op-F Op Rel → Type 0
Inputs P (Op-F.Read source names types filter mask) = Unit {0}
Inputs P (Op-F.Filter input condition) = P input
Inputs P (Op-F.Project input exprs) = P input
Inputs P (Op-F.Fetch input offset count) = P input
Inputs P (Op-F.Sort input keys) = P input
Inputs P (Op-F.Aggregate input groups measures) = P input
Inputs P (Op-F.GroupSets input groups sets measures) = P input
Inputs P (Op-F.Join left right kind on post) = P left × P right
Inputs P (Op-F.Cross left right) = P left × P right
Inputs P (Op-F.Set inputs op) = AllByRecursion P inputs

held_inputs : (O : Op → Type 0) (P : Rel → Type 0) (z : Op-F (With O) (With P)) → Inputs P (map-Op (With O) (With P) Op Rel (λ e. e.0) (λ e. e.0) z)
held_inputs O P (Op-F.Read source names types filter mask) = tt
held_inputs O P (Op-F.Filter input condition) = input.1
held_inputs O P (Op-F.Project input exprs) = input.1
held_inputs O P (Op-F.Fetch input offset count) = input.1
held_inputs O P (Op-F.Sort input keys) = input.1
held_inputs O P (Op-F.Aggregate input groups measures) = input.1
held_inputs O P (Op-F.GroupSets input groups sets measures) = input.1
held_inputs O P (Op-F.Join left right kind on post) = (left.1, right.1)
held_inputs O P (Op-F.Cross left right) = (left.1, right.1)
held_inputs O P (Op-F.Set inputs op) = all_held P inputs

both_inputs : (P Q R : Rel → Type 0) (level : Op-F Op Rel) → ((one : Rel) → P one → Q one → R one) → Inputs P level → Inputs Q level → Inputs R level
both_inputs P Q R (Op-F.Read source names types filter mask) k first second = tt
both_inputs P Q R (Op-F.Filter input condition) k first second = k input first second
both_inputs P Q R (Op-F.Project input exprs) k first second = k input first second
both_inputs P Q R (Op-F.Fetch input offset count) k first second = k input first second
both_inputs P Q R (Op-F.Sort input keys) k first second = k input first second
both_inputs P Q R (Op-F.Aggregate input groups measures) k first second = k input first second
both_inputs P Q R (Op-F.GroupSets input groups sets measures) k first second = k input first second
both_inputs P Q R (Op-F.Join left right kind on post) k first second = (k left first.0 second.0, k right first.1 second.1)
both_inputs P Q R (Op-F.Cross left right) k first second = (k left first.0 second.0, k right first.1 second.1)
both_inputs P Q R (Op-F.Set inputs op) k first second = all_both P Q R inputs k first second

abbrev HasColumns : Rel → Type 0
HasColumns rel = AreKinds (columns_of rel)

direct_valid : (level : Op-F Op Rel) → HasParts level → Inputs HasColumns level → AreKinds (direct_in level)
direct_valid (Op-F.Read source names types filter mask) parts inputs = at_valid types mask parts.1
direct_valid (Op-F.Filter input condition) parts inputs = inputs
direct_valid (Op-F.Project input exprs) parts inputs = append_valid (columns_of input) (map ty_of exprs) inputs (types_valid (columns_of input) exprs inputs parts)
direct_valid (Op-F.Fetch input offset count) parts inputs = inputs
direct_valid (Op-F.Sort input keys) parts inputs = inputs
direct_valid (Op-F.Aggregate input groups measures) parts inputs =
    append_valid (map ty_of groups) (map (λ (one : TypedMeasure). one.ty) measures) (types_valid (columns_of input) groups inputs parts.0) (measures_valid (columns_of input) measures inputs parts.1)
direct_valid (Op-F.GroupSets input groups sets measures) parts inputs =
    let columns = map (group_type sets) (enumerate_from 0 groups) in
    let types = map (λ (one : SetMeasure). one.measure.ty) measures in
    append_valid (columns ++ types) (number_column sets) (append_valid columns types (groups_valid (columns_of input) sets 0 groups inputs parts.0) (set_measures_valid (columns_of input) measures inputs parts.4)) (number_valid sets)
direct_valid (Op-F.Join left right kind on post) parts inputs = join_valid kind (columns_of left) (columns_of right) inputs.0 inputs.1
direct_valid (Op-F.Cross left right) parts inputs = append_valid (columns_of left) (columns_of right) inputs.0 inputs.1
direct_valid (Op-F.Set inputs op) parts all = sets_valid op (map columns_of inputs) (columns_valid inputs all)

relation_valid : (rel : Rel-F Op Rel) → IsRelation rel → Inputs HasColumns (out-Op rel.op) → AreKinds rel.columns
relation_valid rel is inputs = given_kinds (columns_at (direct_in (out-Op rel.op)) rel.emit) rel.columns is.1.as_implied (at_valid (direct_in (out-Op rel.op)) rel.emit (direct_valid (out-Op rel.op) is.0 inputs))

abbrev Nothing : Op-F Op Rel → Type 0
Nothing _ = Unit {0}

abbrev TypedOp : Op → Type 0
TypedOp op = every-Op Nothing IsRelation op

abbrev OpClaim : Op → Type 0
OpClaim op = TypedOp op → Inputs HasColumns (out-Op op)

abbrev RelClaim : Rel → Type 0
RelClaim rel = AreTyped rel → HasColumns rel

-- a well-typed relation's columns
pub typed_columns : (rel : Rel) → AreTyped rel → AreKinds (columns_of rel)
typed_columns = ind-Rel OpClaim RelClaim
    (λ x y is typed.
    let level = out-Op (roll-Op x) in
    let held = every_held-Op Nothing IsRelation (roll-Op x) typed in
    let parts = subst (Inputs AreTyped) held.1 (held_inputs TypedOp AreTyped held.0) in
    let claims = subst (Inputs RelClaim) (is ∙ sym (out-roll-Op x)) (held_inputs OpClaim RelClaim y) in
    both_inputs RelClaim AreTyped HasColumns level (λ one claim known. claim known) claims parts)
    (λ x y is typed.
    let level = out-Rel (roll-Rel x) in
    let held = every_held-Rel Nothing IsRelation (roll-Rel x) typed in
    let part : TypedOp level.op = subst (λ (l : Rel-F Op Rel). TypedOp l.op) held.1 held.0.op.1 in
    let claim : OpClaim level.op = subst (λ (l : Rel-F Op Rel). OpClaim l.op) (is ∙ sym (out-roll-Rel x)) y.op.1 in
    relation_valid level (every_here-Rel Nothing IsRelation (roll-Rel x) typed) (claim part))
