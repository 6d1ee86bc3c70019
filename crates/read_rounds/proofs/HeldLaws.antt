-- Pieces that are held for the workers.
use Rattle.std.proofs.Common.{◌≡◌, ◌∙◌, List, [], ◌∷◌, length, map, sym, ap}
use Rattle.std.specs.List.{All}
use Rattle.std.proofs.lemmas.List.{length-map}
use Rattle.std.proofs.lemmas.List.Elements.{All-weaker}
use Rattle.std.proofs.lemmas.Simd.{map-map}
use Rattle.sub_types.specs.declared.kind.Ty.{Ty}
use Rattle.sub_types.specs.Stream.{glue}
use Rattle.batch.specs.declared.batch.Batch.{Batch}
use Rattle.batch.specs.declared.batch.Piece.{Piece}
use Rattle.batch.specs.BatchRows.{stream_of_piece, types_of}
use Rattle.plan_pipes.specs.declared.pipe.Step.{Step}
use Rattle.plan_pipes.specs.declared.pipe.Step.TheVariants as steps
use Rattle.pipe_steps.specs.Behind.{IsStored}
use Rattle.pipe_steps.specs.Ready.{IsFit, IsReady}
use Rattle.table_round.specs.Below.{HeldPiece}

pub all_typed : (types : List Ty) (pieces : List Piece) → All (IsStored types) pieces → All (λ (piece : Piece). types_of piece.batch ≡ types) pieces
all_typed types pieces all = All-weaker (IsStored types) (λ (piece : Piece). types_of piece.batch ≡ types) (λ piece is. is.typed) pieces all

-- rows that fit are ready for any step
ready_for : (all : List Step) (batch : Batch) → IsFit batch → IsReady all batch
ready_for [] batch fit = fit
ready_for (steps.Read relation names types filter mask ∷ more) batch fit = tt
ready_for (steps.Filter relation condition ∷ more) batch fit = fit
ready_for (steps.Project relation exprs ∷ more) batch fit = fit
ready_for (steps.Keep columns ∷ more) batch fit = fit
ready_for (steps.Probe built ∷ more) batch fit = fit

pub all_ready : (types : List Ty) (all : List Step) (pieces : List Piece) → All (IsStored types) pieces → All (λ (piece : Piece). IsReady all piece.batch) pieces
all_ready types all pieces stored = All-weaker (IsStored types) (λ (piece : Piece). IsReady all piece.batch) (λ piece is. ready_for all piece.batch is.fit) pieces stored

-- all that are held, as a slice
module _ (held all : List HeldPiece) (pieces : List Piece) (same : all ≡ held) (are : map (λ (one : HeldPiece). one.piece) held ≡ pieces) where
  pub held_count : length all ≡ length pieces
  held_count = ap length same ∙ sym (length-map held (λ (one : HeldPiece). one.piece)) ∙ ap length are

  pub held_stream : glue (map (λ (one : HeldPiece). stream_of_piece one.piece) all) ≡ glue (map stream_of_piece pieces)
  held_stream =
      ap (λ (xs : List HeldPiece). glue (map (λ (one : HeldPiece). stream_of_piece one.piece) xs)) same
      ∙ ap glue (sym (map-map stream_of_piece (λ (one : HeldPiece). one.piece) held)) ∙ ap (λ (xs : List Piece). glue (map stream_of_piece xs)) are
