-- The rows that an aggregate gives fit its types.
use Rattle.std.proofs.Common.{List, [], ◌∷◌, ◌++◌, Option, Some, None, map}
use Rattle.std.specs.List.{All, AllByRecursion}
use Rattle.std.specs.Option.{option_to_list}
use Rattle.sub_types.specs.declared.kind.Ty.{Ty}
use Rattle.sub_types.specs.Kind.{IsKind}
use Rattle.sub_types.specs.Value.{Fits}
use Rattle.sub_types.specs.Stream.{Stream}
use Rattle.plan_typed.specs.declared.expr.Expr.{Expr}
use Rattle.plan_typed.specs.declared.rel.TypedMeasure.{TypedMeasure}
use Rattle.plan_typed.specs.Types.{ty_of}
use Rattle.plan_denote.specs.Rows.{Row}
use Rattle.plan_pipes.specs.RowMeaning.{aggregated_by}
use Rattle.well_typed.specs.ExprTyped.{IsTypedOver}
use Rattle.well_typed.specs.WellTyped.{IsMeasureOver, MayBe}
use Rattle.well_typed.proofs.ValidKinds.{call_valid, typed_kind}
use Rattle.batch_nodes.proofs.TypedLaws.{by_places}
use Rattle.rel_specs.specs.declared.groups.AggSpec.{AggSpec}
use Rattle.denote_typed.proofs.GroupLaws.{aggregated_fits}
use Rattle.aggregate.specs.States.{IsOver}
use Rattle.aggregate.specs.Finals.{types_by}

pub each : {X : Type 0} (P : X → Type 0) (xs : List X) → AllByRecursion P xs → All P xs
each P xs all = by_places P xs all

both : {X : Type 0} (P : X → Type 0) (xs ys : List X) → AllByRecursion P xs → AllByRecursion P ys → AllByRecursion P (xs ++ ys)
both P [] ys all more = more
both P (x ∷ xs) ys all more = (all.0, both P xs ys all.1 more)

of_each : {X Y : Type 0} (P : X → Type 0) (Q : Y → Type 0) (f : X → Y) → ((x : X) → P x → Q (f x)) → (xs : List X) → AllByRecursion P xs → AllByRecursion Q (map f xs)
of_each P Q f h [] all = tt
of_each P Q f h (x ∷ xs) all = (h x all.0, of_each P Q f h xs all.1)

module _ (types : List Ty) (spec : AggSpec) (over : IsOver types spec) where
  given : (arg : Option Expr) → MayBe (IsTypedOver types) arg → AllByRecursion IsKind (map (λ (ty : Ty). ty.kind) (map ty_of (option_to_list arg)))
  given None is = tt
  given (Some arg) is = (typed_kind types over.kinds arg is, tt)

  measure_kind : (measure : TypedMeasure) → IsMeasureOver types measure → IsKind measure.ty.kind
  measure_kind measure is = call_valid is.entry.row (map (λ (ty : Ty). ty.kind) (map ty_of (option_to_list measure.arg))) measure.ty.kind (given measure.arg is.arg) is.call.result

  pub kinds_are : All (λ (ty : Ty). IsKind ty.kind) (types_by spec)
  kinds_are =
      each (λ (ty : Ty). IsKind ty.kind) (types_by spec)
      (both (λ (ty : Ty). IsKind ty.kind) (map ty_of spec.groups.items) (map (λ (measure : TypedMeasure). measure.ty) spec.measures.items)
      (of_each (IsTypedOver types) (λ (ty : Ty). IsKind ty.kind) ty_of (λ group is. typed_kind types over.kinds group is) spec.groups.items over.groups)
      (of_each (IsMeasureOver types) (λ (ty : Ty). IsKind ty.kind) (λ (measure : TypedMeasure). measure.ty) measure_kind spec.measures.items over.measures))

  pub rows_fit : (rows : Stream Row) → AllByRecursion (Fits types) rows.rows → All (Fits (types_by spec)) (aggregated_by spec rows).rows
  rows_fit rows fit = each (Fits (types_by spec)) (aggregated_by spec rows).rows (aggregated_fits types spec.groups.items spec.measures.items over.groups over.measures spec.relation rows fit)
