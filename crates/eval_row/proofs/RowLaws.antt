-- Where a batch has no row, or a row no column.
use Rattle.std.proofs.Common.{◌≡◌, ◌∙◌, ℕ, ◌<◌, ◌≤◌, [], length, slice_index_or, sym, ap, subst, arith}
use Rattle.std.proofs.lemmas.List.{get_or_past, length-map}
use Rattle.std.proofs.lemmas.List.FromFn.{get_or-map-range_with_len, length-map-range_with_len}
use Rattle.sub_types.specs.Rows.{across}
use Rattle.sub_types.specs.declared.value.Value.TheVariants.{Null}
use Rattle.batch.specs.BatchRows.{rows_of, columns_of}
use Rattle.batch.specs.Column.{column_values}
use Rattle.batch.specs.declared.batch.Batch.{Batch}

pub no_row : (batch : Batch) (row index : ℕ) → batch.rows ≤ row → Null ≡ slice_index_or (slice_index_or (rows_of batch) row []) index Null
no_row batch row index far =
    let none = get_or_past (rows_of batch) row [] (subst (λ n. n ≤ row) (sym (length-map-range_with_len (across Null (columns_of batch)) 0 batch.rows)) far) in
    sym (ap (λ found. slice_index_or found index Null) none)

pub no_column : (batch : Batch) (row index : ℕ) → row < batch.rows → length batch.columns.items ≤ index → Null ≡ slice_index_or (slice_index_or (rows_of batch) row []) index Null
no_column batch row index there far =
    let columns = columns_of batch in
    let found : slice_index_or (rows_of batch) row [] ≡ across Null columns row = get_or-map-range_with_len (across Null columns) 0 batch.rows row row [] there (omega arith) in
    let long : length (across Null columns row) ≡ length batch.columns.items =
    length-map columns (λ column. slice_index_or column row Null) ∙ length-map batch.columns.items column_values in
    sym (ap (λ one. slice_index_or one index Null) found ∙ get_or_past (across Null columns row) index Null (subst (λ n. n ≤ index) (sym long) far))
