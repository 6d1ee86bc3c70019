-- The value of a column at a row of a batch.
use Rattle.std.proofs.Common.{◌≡◌, ◌∙◌, ℕ, ◌+◌, ◌-◌, ◌<◌, ◌≤◌, List, [], ◌∷◌, ◌++◌, Some, length, take, drop, get_or, slice_get, sym, ap, arith}
use Rattle.std.specs.List.{slice_range}
use Rattle.std.proofs.Math.ListN.{get_or-map}
use Rattle.std.proofs.lemmas.List.{length-map, drop_more, get_or-map as get_or-map_within}
use Rattle.std.proofs.lemmas.Option.{get_or_from_slice_get, slice_get_within}
use Rattle.sub_types.specs.declared.kind.Ty.{Ty}
use Rattle.sub_types.specs.declared.value.Value.{Value}
use Rattle.sub_types.specs.declared.value.Value.TheVariants.{Null}
use Rattle.batch.specs.declared.batch.Batch.{Batch}
use Rattle.batch.specs.declared.column.Column.{Column}
use Rattle.batch.specs.BatchRows.{columns_of, types_of}
use Rattle.batch.specs.Column.{column_values, column_type}
use Rattle.batch.proofs.RowLaws.{get_or-transpose, get_or-across}
use Rattle.batch_places.specs.BatchRow.{row_at}

column_below : (batch : Batch) (index : ℕ) (ty : Ty) → slice_get (types_of batch) index ≡ Some ty → index < length batch.columns.items
column_below batch index ty is = omega (arith, slice_get_within (types_of batch) index ty is, length-map batch.columns.items column_type)

-- a column by the type at its place
pub kind_is : (batch : Batch) (index : ℕ) (column : Column) (ty : Ty) → column ≡ get_or batch.columns.items index column → slice_get (types_of batch) index ≡ Some ty → column.ty.kind ≡ ty.kind
kind_is batch index column ty at is =
    ap (λ (one : Column). one.ty.kind) at
    ∙ ap (λ (t : Ty). t.kind) (sym (get_or-map column_type batch.columns.items index column) ∙ get_or_from_slice_get (types_of batch) index ty (column_type column) is)

-- it has a value of each row
pub length-column : (batch : Batch) (index : ℕ) (column : Column) (ty : Ty) → column ≡ get_or batch.columns.items index column → slice_get (types_of batch) index ≡ Some ty → length (column_values column) ≡ batch.rows
length-column batch index column ty at is =
    ap (λ (one : Column). length (column_values one)) at ∙ batch.sized index column (column_below batch index ty is)

pub row_below : (batch : Batch) (index row : ℕ) (column : Column) (ty : Ty) → column ≡ get_or batch.columns.items index column → slice_get (types_of batch) index ≡ Some ty → row < batch.rows → row + 1 ≤ length (column_values column)
row_below batch index row column ty at is below = omega (arith, length-column batch index column ty at is, below)

slice-one : (values : List Value) (i : ℕ) → i < length values → slice_range values i (i + 1) ≡ get_or values i Null ∷ []
slice-one values i below =
    let size : i + 1 - i ≡ 1 = omega arith in
    ap (λ n. take n (drop i values)) size ∙ ap (take 1) (drop_more values i Null below)

-- one value of a column is that of the row
pub value_added : (batch : Batch) (index row : ℕ) (column : Column) (ty : Ty) (old new : List Value) → column ≡ get_or batch.columns.items index column → slice_get (types_of batch) index ≡ Some ty → row < batch.rows
    → new ≡ old ++ slice_range (column_values column) row (row + 1) → new ≡ old ++ get_or (row_at batch row) index Null ∷ []
value_added batch index row column ty old new at is below added =
    let in_row : get_or (row_at batch row) index Null ≡ get_or (get_or (columns_of batch) index []) row Null =
    ap (λ values. get_or values index Null) (get_or-transpose Null batch.rows row (columns_of batch) [] below) ∙ get_or-across Null (columns_of batch) row index in
    let whole : get_or (columns_of batch) index [] ≡ column_values column =
    get_or-map_within column_values batch.columns.items index column [] (column_below batch index ty is) ∙ sym (ap column_values at) in
    added
    ∙ ap (λ more. old ++ more) (slice-one (column_values column) row (omega (arith, length-column batch index column ty at is, below)))
    ∙ ap (λ value. old ++ value ∷ []) (ap (λ values. get_or values row Null) (sym whole) ∙ sym in_row)
