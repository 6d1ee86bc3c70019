-- The rows of a batch by their places.
use Rattle.std.specs.Prelude.{ℕ, List, [], Bool, nat_lt, slice_index_or}
use Rattle.sub_types.specs.declared.value.Value.{Value}
use Rattle.batch.specs.declared.batch.Batch.{Batch}
use Rattle.batch.specs.BatchRows.{rows_of}

-- whether a batch has a row at a place
abbrev pub has_row : Batch → ℕ → Bool
has_row batch place = nat_lt place batch.rows

-- the row there, and an empty one where there is none
abbrev pub row_at : Batch → ℕ → List Value
row_at batch place = slice_index_or (rows_of batch) place []
