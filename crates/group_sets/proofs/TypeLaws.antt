-- The rows that grouping sets give fit their types.
use Rattle.std.proofs.Common.{ℕ, ◌+◌, List, [], ◌∷◌, ◌++◌, Bool, true, false, Option, Some, None, map, length, if◌then◌else◌}
use Rattle.std.specs.Prelude.{nat_le}
use Rattle.std.specs.List.{All, AllByRecursion, enumerate_from}
use Rattle.std.specs.Option.{option_to_list}
use Rattle.sub_types.specs.declared.kind.Ty.{Ty}
use Rattle.sub_types.specs.Kind.{IsKind}
use Rattle.sub_types.specs.Value.{Fits}
use Rattle.sub_types.specs.Stream.{Stream}
use Rattle.plan_typed.specs.declared.expr.Expr.{Expr}
use Rattle.plan_typed.specs.declared.rel.SetMeasure.{SetMeasure}
use Rattle.plan_typed.specs.declared.rel.TypedMeasure.{TypedMeasure}
use Rattle.plan_typed.specs.Types.{ty_of}
use Rattle.plan_denote.specs.Rows.{Row}
use Rattle.plan_pipes.specs.RowMeaning.{sets_of, grouped_by}
use Rattle.well_typed.specs.Columns.{group_type, number_column}
use Rattle.well_typed.specs.ExprTyped.{IsTypedOver}
use Rattle.well_typed.specs.WellTyped.{IsMeasureOver, IsSetMeasureOver, MayBe}
use Rattle.well_typed.proofs.ValidKinds.{call_valid, typed_kind}
use Rattle.rel_specs.specs.declared.groups.SetSpec.{SetSpec}
use Rattle.denote_typed.proofs.GroupSetLaws.{grouping_sets_fit}
use Rattle.aggregate.proofs.TypeLaws.{each}
use Rattle.set_states.specs.States.{measure_in}
use Rattle.group_sets.specs.States.{IsOver}
use Rattle.group_sets.specs.Finals.{types_by}
use Rattle.group_sets.proofs.ColumnLaws.{number_if}

abbrev IsKindOf : Ty → Type 0
IsKindOf ty = IsKind ty.kind

both : {X : Type 0} (P : X → Type 0) (xs ys : List X) → AllByRecursion P xs → AllByRecursion P ys → AllByRecursion P (xs ++ ys)
both P [] ys all more = more
both P (x ∷ xs) ys all more = (all.0, both P xs ys all.1 more)

number_kind : (b : Bool) → AllByRecursion IsKindOf (if b then [] else number_if)
number_kind true = tt
number_kind false = (tt, tt)

measured : (types : List Ty) (measures : List SetMeasure) → AllByRecursion (IsSetMeasureOver types) measures → AllByRecursion (IsMeasureOver types) (map measure_in measures)
measured types [] all = tt
measured types (one ∷ measures) all = (all.0.measure, measured types measures all.1)

module _ (types : List Ty) (spec : SetSpec) (over : IsOver types spec) where
  -- the measures, each as over all values
  pub plain_over : All (IsMeasureOver types) (map measure_in spec.measures.items)
  plain_over = each (IsMeasureOver types) (map measure_in spec.measures.items) (measured types spec.measures.items over.measures)

  given : (arg : Option Expr) → MayBe (IsTypedOver types) arg → AllByRecursion IsKind (map (λ (ty : Ty). ty.kind) (map ty_of (option_to_list arg)))
  given None is = tt
  given (Some arg) is = (typed_kind types over.kinds arg is, tt)

  measure_kind : (measure : TypedMeasure) → IsMeasureOver types measure → IsKind measure.ty.kind
  measure_kind measure is = call_valid is.entry.row (map (λ (ty : Ty). ty.kind) (map ty_of (option_to_list measure.arg))) measure.ty.kind (given measure.arg is.arg) is.call.result

  group_kinds : (sets : List (List ℕ)) (place : ℕ) (groups : List Expr) → AllByRecursion (IsTypedOver types) groups → AllByRecursion IsKindOf (map (group_type sets) (enumerate_from place groups))
  group_kinds sets place [] all = tt
  group_kinds sets place (group ∷ groups) all = (typed_kind types over.kinds group all.0, group_kinds sets (place + 1) groups all.1)

  measure_kinds : (measures : List SetMeasure) → AllByRecursion (IsSetMeasureOver types) measures → AllByRecursion IsKindOf (map (λ (one : SetMeasure). one.measure.ty) measures)
  measure_kinds [] all = tt
  measure_kinds (one ∷ measures) all = (measure_kind one.measure all.0.measure, measure_kinds measures all.1)

  pub kinds_are : All (λ (ty : Ty). IsKind ty.kind) (types_by spec)
  kinds_are =
      let groups = map (group_type (sets_of spec)) (enumerate_from 0 spec.groups.items) in
      let measures = map (λ (one : SetMeasure). one.measure.ty) spec.measures.items in
      each IsKindOf (types_by spec)
      (both IsKindOf (groups ++ measures) (number_column (sets_of spec))
      (both IsKindOf groups measures (group_kinds (sets_of spec) 0 spec.groups.items over.groups) (measure_kinds spec.measures.items over.measures)) (number_kind (nat_le (length (sets_of spec)) 1)))

  pub rows_fit : (rows : Stream Row) → AllByRecursion (Fits types) rows.rows → All (Fits (types_by spec)) (grouped_by spec rows).rows
  rows_fit rows fit =
      each (Fits (types_by spec)) (grouped_by spec rows).rows (grouping_sets_fit types spec.groups.items (sets_of spec) spec.measures.items over.groups over.few over.measures spec.relation rows fit)
