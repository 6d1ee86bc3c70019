-- Pieces of rows that fit types.
use Rattle.std.specs.Prelude.{◌≡◌, List}
use Rattle.std.specs.List.{All}
use Rattle.sub_types.specs.declared.kind.Ty.{Ty}
use Rattle.sub_types.specs.Value.{Fits}
use Rattle.batch.specs.declared.batch.Piece.{Piece}
use Rattle.batch.specs.BatchRows.{rows_of, types_of}

-- the columns are of these types, and the rows fit them
pub record HoldsRows (types : List Ty) (piece : Piece) : Type 0 where
  pub typed : types_of piece.batch ≡ types
  pub fit : All (Fits types) (rows_of piece.batch)
