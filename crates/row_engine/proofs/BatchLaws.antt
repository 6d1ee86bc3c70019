-- A row of a batch, value by value.
use Rattle.std.proofs.Common.{◌≡◌, ◌∙◌, ℕ, ◌+◌, ◌<◌, List, [], ◌∷◌, ◌++◌, length, drop, slice_index_or, sym, ap, append_assoc, arith}
use Rattle.std.proofs.lemmas.List.{length-map, drop_more, append-nil}
use Rattle.std.proofs.lemmas.List.FromFn.{get_or-map-range_with_len, length-map-range_with_len}
use Rattle.std.proofs.Math.Seq.{drop-length}
use Rattle.sub_types.specs.Rows.{across}
use Rattle.sub_types.specs.declared.value.Value.{Value}
use Rattle.sub_types.specs.declared.value.Value.TheVariants.{Null}
use Rattle.batch.specs.BatchRows.{rows_of, columns_of}
use Rattle.batch.specs.Column.{column_values}
use Rattle.batch.specs.declared.batch.Batch.{Batch}

abbrev pub row_in : Batch → ℕ → List Value
row_in batch row = slice_index_or (rows_of batch) row []

-- a row has a value for each column
pub row_length : (batch : Batch) (row : ℕ) → row < batch.rows → length (row_in batch row) ≡ length batch.columns.items
row_length batch row there =
    let columns = columns_of batch in
    let found : row_in batch row ≡ across Null columns row = get_or-map-range_with_len (across Null columns) 0 batch.rows row row [] there (omega arith) in
    ap length found ∙ length-map columns (λ column. slice_index_or column row Null) ∙ length-map batch.columns.items column_values

pub one_value : (values row : List Value) (column : ℕ) (value : Value) → column < length row → value ≡ slice_index_or row column Null
    → (values ++ value ∷ []) ++ drop (column + 1) row ≡ values ++ drop column row
one_value values row column value there is =
    append_assoc values (value ∷ []) (drop (column + 1) row)
    ∙ ap (λ one. values ++ one ∷ drop (column + 1) row) is ∙ ap (λ rest. values ++ rest) (sym (drop_more row column Null there))

pub all_values : (values row : List Value) (columns : ℕ) → columns ≡ length row → values ++ drop columns row ≡ row → values ≡ row
all_values values row columns all holds =
    sym (append-nil values) ∙ ap (λ rest. values ++ rest) (sym (ap (λ n. drop n row) all ∙ drop-length row)) ∙ holds

pub rows_length : (batch : Batch) → length (rows_of batch) ≡ batch.rows
rows_length batch = length-map-range_with_len (across Null (columns_of batch)) 0 batch.rows

pub one_row : (done rows : List (List Value)) (place : ℕ) (row : List Value) → place < length rows → row ≡ slice_index_or rows place []
    → (done ++ row ∷ []) ++ drop (place + 1) rows ≡ done ++ drop place rows
one_row done rows place row there is =
    append_assoc done (row ∷ []) (drop (place + 1) rows)
    ∙ ap (λ one. done ++ one ∷ drop (place + 1) rows) is ∙ ap (λ rest. done ++ rest) (sym (drop_more rows place [] there))

pub no_more : (done rows : List (List Value)) (place : ℕ) → place ≡ length rows → done ≡ done ++ drop place rows
no_more done rows place all = sym (append-nil done) ∙ ap (λ rest. done ++ rest) (sym (ap (λ n. drop n rows) all ∙ drop-length rows))
