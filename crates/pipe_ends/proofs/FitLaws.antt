-- Pieces whose rows fit the types that they are stored with.
use Rattle.std.proofs.Common.{◌≡◌, ◌∙◌, List, [], ◌∷◌, ◌++◌, map, sym, ap, subst}
use Rattle.std.specs.List.{All, AllByRecursion}
use Rattle.std.proofs.lemmas.List.Elements.{recursion_from_All, All-from_recursion}
use Rattle.sub_types.specs.Stream.{Stream, rows_alone}
use Rattle.sub_types.specs.Value.{Fits}
use Rattle.sub_types.specs.declared.kind.Ty.{Ty}
use Rattle.batch.specs.declared.batch.Batch.{Batch}
use Rattle.batch.specs.declared.batch.Piece.{Piece}
use Rattle.batch.specs.BatchRows.{rows_of, types_of, stream_of_piece}
use Rattle.plan_denote.specs.Rows.{Row}
use Rattle.denote_typed.proofs.RowsLaws.{Rows, weakened, glued, appended}
use Rattle.set_rels.specs.Inputs.{stream_of, rows_in}
use Rattle.set_rels.proofs.PieceLaws.{whole}
use Rattle.pipe_steps.specs.Ready.{IsFit}
use Rattle.pipe_ends.specs.Given.{up_to_fault}
use Rattle.pipe_ends.proofs.EndLaws.{same_stream, all_count, kept_all}

abbrev pub HasTypes : List Ty → Piece → Type 0
HasTypes types piece = types_of piece.batch ≡ types

abbrev pub FitsOwn : Piece → Type 0
FitsOwn piece = IsFit piece.batch

-- the rows of pieces, by what follows of their types
module _ (types : List Ty) (P : Row → Type 0) (k : (row : Row) → Fits types row → P row) where
  rows_fit : (batch : Batch) → types_of batch ≡ types → IsFit batch → AllByRecursion P (rows_of batch)
  rows_fit batch same fit =
      weakened (Fits types) P (rows_of batch) (subst (λ (own : List Ty). AllByRecursion (Fits own) (rows_of batch)) same (recursion_from_All (Fits (types_of batch)) (rows_of batch) fit)) k

  each_fits : (pieces : List Piece) → AllByRecursion (HasTypes types) pieces → AllByRecursion FitsOwn pieces → AllByRecursion (Rows P) (map stream_of_piece pieces)
  each_fits [] typed fit = tt
  each_fits (piece ∷ pieces) typed fit = (rows_fit piece.batch typed.0 fit.0, each_fits pieces typed.1 fit.1)

  all_fit : (pieces : List Piece) → AllByRecursion (HasTypes types) pieces → AllByRecursion FitsOwn pieces → AllByRecursion P (rows_in pieces)
  all_fit [] typed fit = tt
  all_fit (piece ∷ pieces) typed fit = appended P (rows_of piece.batch) (rows_in pieces) (rows_fit piece.batch typed.0 fit.0) (all_fit pieces typed.1 fit.1)

  pub stream_fits : (pieces : List Piece) → All (HasTypes types) pieces → All FitsOwn pieces → Rows P (stream_of pieces)
  stream_fits pieces typed fit = glued P (map stream_of_piece pieces) (each_fits pieces (recursion_from_All (HasTypes types) pieces typed) (recursion_from_All FitsOwn pieces fit))

  pub rows_in_fit : (pieces : List Piece) → All (HasTypes types) pieces → All FitsOwn pieces → AllByRecursion P (rows_in pieces)
  rows_in_fit pieces typed fit = all_fit pieces (recursion_from_All (HasTypes types) pieces typed) (recursion_from_All FitsOwn pieces fit)

pub own_rows : (types : List Ty) (pieces : List Piece) → All (HasTypes types) pieces → All FitsOwn pieces → Rows (Fits types) (stream_of pieces)
own_rows types pieces typed fit = stream_fits types (Fits types) (λ row fits. fits) pieces typed fit

-- parts of a list
first_part : (P : Row → Type 0) (rows more : List Row) → AllByRecursion P (rows ++ more) → AllByRecursion P rows
first_part P [] more all = tt
first_part P (row ∷ rows) more all = (all.0, first_part P rows more all.1)

last_part : (P : Row → Type 0) (rows more : List Row) → AllByRecursion P (rows ++ more) → AllByRecursion P more
last_part P [] more all = all
last_part P (row ∷ rows) more all = last_part P rows more all.1

-- pieces of which all rows fit
module _ (types : List Ty) where
  batch_fits : (batch : Batch) → types_of batch ≡ types → AllByRecursion (Fits types) (rows_of batch) → IsFit batch
  batch_fits batch same all = All-from_recursion (Fits (types_of batch)) (rows_of batch) (subst (λ (own : List Ty). AllByRecursion (Fits own) (rows_of batch)) (sym same) all)

  by_pieces : (pieces : List Piece) → AllByRecursion (HasTypes types) pieces → AllByRecursion (Fits types) (rows_in pieces) → AllByRecursion FitsOwn pieces
  by_pieces [] typed all = tt
  by_pieces (piece ∷ pieces) typed all = (
    batch_fits piece.batch typed.0 (first_part (Fits types) (rows_of piece.batch) (rows_in pieces) all),
    by_pieces pieces typed.1 (last_part (Fits types) (rows_of piece.batch) (rows_in pieces) all),
  )

  pub pieces_fit : (pieces : List Piece) → All (HasTypes types) pieces → AllByRecursion (Fits types) (rows_in pieces) → All FitsOwn pieces
  pieces_fit pieces typed all = All-from_recursion FitsOwn pieces (by_pieces pieces (recursion_from_All (HasTypes types) pieces typed) all)

  -- those without a fault
  pub alone_fit : (pieces : List Piece) (rows : List Row) → stream_of pieces ≡ rows_alone rows → All (HasTypes types) pieces → AllByRecursion (Fits types) rows → All FitsOwn pieces
  alone_fit pieces rows is typed all =
      pieces_fit pieces typed (subst (AllByRecursion (Fits types)) (ap (λ (s : Stream Row). s.rows) (sym is ∙ whole pieces (ap (λ (s : Stream Row). s.end) is))) all)

  -- those up to the first fault
  pub kept_typed : (pieces : List Piece) → All (HasTypes types) pieces → All (HasTypes types) (up_to_fault pieces)
  kept_typed pieces typed = All-from_recursion (HasTypes types) (up_to_fault pieces) (kept_all (HasTypes types) pieces (recursion_from_All (HasTypes types) pieces typed))

  pub kept_fit : (pieces : List Piece) (s : Stream Row) → stream_of pieces ≡ s → All (HasTypes types) pieces → Rows (Fits types) s → All FitsOwn (up_to_fault pieces)
  kept_fit pieces s is typed all =
      pieces_fit (up_to_fault pieces) (kept_typed pieces typed)
      (subst (AllByRecursion (Fits types)) (sym (all_count pieces ∙ ap (λ (one : Stream Row). one.rows) (same_stream pieces ∙ is))) all)

-- pieces of batches of these types
abbrev batch_in : Piece → Batch
batch_in piece = piece.batch

unmapped : (P : Batch → Type 0) (pieces : List Piece) → AllByRecursion P (map batch_in pieces) → AllByRecursion (λ piece. P (batch_in piece)) pieces
unmapped P [] all = tt
unmapped P (piece ∷ pieces) all = (all.0, unmapped P pieces all.1)

pub pieces_typed : (types : List Ty) (pieces : List Piece) (batches : List Batch) → map (λ (piece : Piece). piece.batch) pieces ≡ batches → All (λ (batch : Batch). types_of batch ≡ types) batches → All (HasTypes types) pieces
pieces_typed types pieces batches are all =
    All-from_recursion (HasTypes types) pieces
    (unmapped (λ (batch : Batch). types_of batch ≡ types) pieces
    (subst (AllByRecursion (λ (batch : Batch). types_of batch ≡ types)) (sym are) (recursion_from_All (λ (batch : Batch). types_of batch ≡ types) batches all)))
