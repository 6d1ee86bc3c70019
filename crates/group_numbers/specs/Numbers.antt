-- Keys of one whole number or of null.
use Rattle.std.specs.Prelude.{◌≡◌, ℕ, List, [], ◌∷◌, true, length, map, slice_index_or}
use Rattle.std.specs.List.{range_with_len}
use Rattle.sub_types.specs.declared.value.Value.TheVariants.{Null}
use Rattle.batch.specs.declared.batch.Batch.{Batch}
use Rattle.batch.specs.declared.column_data.ColumnData.{ColumnData}
use Rattle.batch.specs.ColumnValues.{values_of, storage_of}
use Rattle.plan_denote.specs.Computed.{Row}
use Rattle.key_hashes.specs.KeyNumbers.{is_stored_as_numbers}
use Rattle.group_numbers.specs.Keys.{keys_at}

-- the key of a row, and the keys of the first rows, where a column has them
abbrev pub key_in : ColumnData → ℕ → Row
key_in column row = slice_index_or (values_of column) row Null ∷ []

abbrev pub keys_in : ColumnData → ℕ → List Row
keys_in column rows = map (key_in column) (range_with_len 0 rows)

-- the column has whole numbers, and they are the keys of the rows
pub record HasNumbers (columns : List ℕ) (batch : Batch) (column : ColumnData) : Type 0 where
  pub stored : is_stored_as_numbers (storage_of column) ≡ true
  pub all : length (values_of column) ≡ batch.rows
  pub keys : keys_at columns batch ≡ keys_in column batch.rows
