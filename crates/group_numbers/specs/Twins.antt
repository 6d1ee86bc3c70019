-- Rows of a batch whose keys are those of rows before them.
use Rattle.std.specs.Prelude.{◌≡◌, ◌<◌, ◌≤◌, ℕ, List, length, slice_index_or}
use Rattle.batch.specs.declared.batch.Batch.{Batch}
use Rattle.row_keys.specs.Keys.{key_of}

-- for each of the first rows a row with the same key, which isn't behind it
pub record AreTwins (columns : List ℕ) (batch : Batch) (rows : ℕ) (twins : List ℕ) : Type 0 where
  pub all : length twins ≡ rows
  pub before : (row : ℕ) → row < rows → slice_index_or twins row 0 ≤ row
  pub same : (row : ℕ) → row < rows → key_of columns batch (slice_index_or twins row 0) ≡ key_of columns batch row
