-- Pieces whose rows fit the types that they are stored with.
use Rattle.std.proofs.Common.{◌≡◌, List, [], ◌∷◌, map, subst}
use Rattle.std.specs.List.{All, AllByRecursion}
use Rattle.std.proofs.lemmas.List.Elements.{recursion_from_All}
use Rattle.sub_types.specs.Value.{Fits}
use Rattle.sub_types.specs.declared.kind.Ty.{Ty}
use Rattle.batch.specs.declared.batch.Batch.{Batch}
use Rattle.batch.specs.declared.batch.Piece.{Piece}
use Rattle.batch.specs.BatchRows.{rows_of, types_of, stream_of_piece}
use Rattle.plan_denote.specs.Rows.{Row}
use Rattle.denote_typed.proofs.RowsLaws.{Rows, weakened, glued}
use Rattle.set_rels.specs.Inputs.{stream_of}
use Rattle.pipe_steps.specs.Ready.{IsFit}

abbrev HasTypes : List Ty → Piece → Type 0
HasTypes types piece = types_of piece.batch ≡ types

abbrev FitsOwn : Piece → Type 0
FitsOwn piece = IsFit piece.batch

-- the rows of pieces, by what follows of their types
module _ (types : List Ty) (P : Row → Type 0) (k : (row : Row) → Fits types row → P row) where
  batch_fits : (batch : Batch) → types_of batch ≡ types → IsFit batch → AllByRecursion P (rows_of batch)
  batch_fits batch same fit =
      weakened (Fits types) P (rows_of batch) (subst (λ (own : List Ty). AllByRecursion (Fits own) (rows_of batch)) same (recursion_from_All (Fits (types_of batch)) (rows_of batch) fit)) k

  each_fits : (pieces : List Piece) → AllByRecursion (HasTypes types) pieces → AllByRecursion FitsOwn pieces → AllByRecursion (Rows P) (map stream_of_piece pieces)
  each_fits [] typed fit = tt
  each_fits (piece ∷ pieces) typed fit = (batch_fits piece.batch typed.0 fit.0, each_fits pieces typed.1 fit.1)

  pub stream_fits : (pieces : List Piece) → All (λ (piece : Piece). types_of piece.batch ≡ types) pieces → All (λ (piece : Piece). IsFit piece.batch) pieces → AllByRecursion P (stream_of pieces).rows
  stream_fits pieces typed fit = glued P (map stream_of_piece pieces) (each_fits pieces (recursion_from_All (HasTypes types) pieces typed) (recursion_from_All FitsOwn pieces fit))
