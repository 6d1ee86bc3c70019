-- The rows of batches cut anew.
use Rattle.std.specs.Prelude.{◌≡◌, ℕ, ◌+◌, ◌-◌, ◌<◌, ◌≤◌, List, [], ◌∷◌, take, map, length, slice_index_or}
use Rattle.std.specs.List.{sum_by, slice_range}
use Rattle.batch.specs.declared.batch.Batch.{Batch}
use Rattle.arrow_write.specs.declared.cursor.Cursor.{Cursor}
use Rattle.arrow_write.specs.declared.cursor.Part.{Part}

-- how many rows the batches have
abbrev pub rows_in : List Batch → ℕ
rows_in batches = sum_by (λ batch. batch.rows) batches

-- how many rows stand before a row of a batch, of all batches
abbrev pub place_of_row : List Batch → ℕ → ℕ → ℕ
place_of_row batches i row = rows_in (take i batches) + row

abbrev pub rows_before : List Batch → Cursor → ℕ
rows_before batches cursor = place_of_row batches cursor.batch cursor.row

-- the rows of the batch at a place, none past the last batch
abbrev pub rows_at : List Batch → ℕ → ℕ
rows_at batches i = slice_index_or (map (λ batch. batch.rows) batches) i 0

-- the cursor stands in its batch, or behind it
abbrev pub IsInside : List Batch → Cursor → Type 0
IsInside batches cursor = cursor.row ≤ rows_at batches cursor.batch

-- the part lies in its batch
pub record IsPartOf (batches : List Batch) (part : Part) : Type 0 where
  pub exists : part.batch < length batches
  pub rising : part.from ≤ part.to
  pub within : part.to ≤ rows_at batches part.batch

-- there is one part, and it is all of the batch at a place
pub record IsWhole (batches : List Batch) (parts : List Part) (i : ℕ) : Type 0 where
  pub exists : i < length batches
  pub alone : length parts ≡ 1
  pub batch : (d : Part) → (slice_index_or parts 0 d).batch ≡ i
  pub from : (d : Part) → (slice_index_or parts 0 d).from ≡ 0
  pub to : (d : Part) → (slice_index_or parts 0 d).to ≡ rows_at batches i

-- how many rows the part has
abbrev pub rows_of_part : Part → ℕ
rows_of_part part = part.to - part.from

-- each part begins where the one before it ends, and the first at a place of all rows
abbrev pub Follow : List Batch → ℕ → List Part → Type 0
Follow batches place [] = Unit {0}
Follow batches place (part ∷ parts) = (place_of_row batches part.batch part.from ≡ place) × Follow batches (place + rows_of_part part) parts

-- the place of the first part
abbrev pub place_of_parts : List Batch → List Part → ℕ
place_of_parts batches [] = 0
place_of_parts batches (part ∷ parts) = place_of_row batches part.batch part.from

-- the parts are so many rows from a place on
pub record AreRows (batches : List Batch) (place count : ℕ) (parts : List Part) : Type 0 where
  pub follow : Follow batches place parts
  pub count_is : sum_by rows_of_part parts ≡ count

-- what a list for each batch has in the part
abbrev pub part_of : {X : Type 0} → (Batch → List X) → List Batch → Part → List X
part_of f batches part = slice_range (slice_index_or (map f batches) part.batch []) part.from part.to
