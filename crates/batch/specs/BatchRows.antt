-- The rows of a batch and their types.
use Rattle.std.specs.Prelude.{ℕ, List, [], map, slice_index_or}
use Rattle.sub_types.specs.declared.kind.Ty.{Ty}
use Rattle.sub_types.specs.declared.value.Value.{Value}
use Rattle.sub_types.specs.declared.value.Value.TheVariants.{Null}
use Rattle.sub_types.specs.Stream.{Stream}
use Rattle.batch.specs.declared.batch.Batch.{Batch}
use Rattle.batch.specs.declared.batch.Piece.{Piece}
use Rattle.batch.specs.Column.{column_values, column_type}
use Rattle.sub_types.specs.Rows.{transpose}

-- the values of each column
abbrev pub columns_of : Batch → List (List Value)
columns_of batch = map column_values batch.columns.items

-- the values of the column at a place
abbrev pub column_of : ℕ → Batch → List Value
column_of index batch = slice_index_or (columns_of batch) index []

-- the type of each column
abbrev pub types_of : Batch → List Ty
types_of batch = map column_type batch.columns.items

-- the rows
abbrev pub rows_of : Batch → List (List Value)
rows_of batch = transpose Null batch.rows (columns_of batch)

-- the rows and the end
abbrev pub stream_of_piece : Piece → Stream (List Value)
stream_of_piece piece = record { rows = rows_of piece.batch; end = piece.end }
