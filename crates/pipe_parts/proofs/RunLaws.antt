-- Runs in order, and the columns of their keys.
use Rattle.std.proofs.Common.{◌≡◌, ◌∙◌, ℕ, ◌<◌, List, [], ◌∷◌, map, length, sym, ap, subst}
use Rattle.std.specs.List.{All, AllByRecursion}
use Rattle.std.proofs.lemmas.List.{length-map}
use Rattle.std.proofs.lemmas.List.Elements.{All-from_recursion}
use Rattle.sub_types.specs.Stream.{Stream, rows_alone}
use Rattle.sub_types.specs.declared.kind.Ty.{Ty}
use Rattle.batch.specs.declared.batch.Batch.{Batch}
use Rattle.batch.specs.BatchRows.{types_of}
use Rattle.batch.specs.Column.{column_type}
use Rattle.plan_denote.specs.Rows.{Row}
use Rattle.plan_pipes.specs.RowMeaning.{sorted_by}
use Rattle.rel_specs.specs.declared.key_order.KeyOrder.{KeyOrder}
use Rattle.sort_merge.proofs.OrderLaws.{sorted_is}
use Rattle.sort_merge.specs.RowOrder.{in_order}
use Rattle.well_typed.specs.WellTyped.{AreBelow}

-- a run in order
pub run_is : (keys : List KeyOrder) (sorted rows : List Row) → rows_alone sorted ≡ sorted_by keys (rows_alone rows) → sorted ≡ in_order keys rows
run_is keys sorted rows is = ap (λ (s : Stream Row). s.rows) (is ∙ sorted_is keys rows)

-- keys over the columns of a batch
below_each : (count : ℕ) (keys : List KeyOrder) → AreBelow count (map (λ (key : KeyOrder). key.column) keys) → AllByRecursion (λ (key : KeyOrder). key.column < count) keys
below_each count [] below = tt
below_each count (key ∷ keys) below = (below.0, below_each count keys below.1)

pub columns_of_batch : (keys : List KeyOrder) (types : List Ty) (batch : Batch) → AreBelow (length types) (map (λ (key : KeyOrder). key.column) keys) → types_of batch ≡ types → All (λ (key : KeyOrder). key.column < length batch.columns.items) keys
columns_of_batch keys types batch below same =
    let width : length types ≡ length batch.columns.items = ap length (sym same) ∙ length-map batch.columns.items column_type in
    subst (λ count. All (λ (key : KeyOrder). key.column < count) keys) width (All-from_recursion (λ (key : KeyOrder). key.column < length types) keys (below_each (length types) keys below))
