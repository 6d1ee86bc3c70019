use Rattle.std.proofs.Common.{◌≡◌, map}
use Rattle.std.specs.List.{All, flat_map}
use Rattle.std.specs.Vec.Iter.{into_iter_items}
use Rattle.sub_types.specs.Stream.{rows_alone, followed_by, glue}
use Rattle.batch.specs.declared.batch.Batch.{Batch}
use Rattle.batch.specs.declared.batch.Piece.{Piece}
use Rattle.batch.specs.BatchRows.{rows_of, stream_of_piece, types_of}
use Rattle.table_rows.specs.Read.{kinds_of}
use Rattle.piece_batches.proofs.pieces.in_batches.Given as goal

-- the rows so far, and those of the pieces that are left
abbrev pub invariant-loop-piece : goal.invariant-loop-piece
invariant-loop-piece l = record {
  rows : followed_by (rows_alone (flat_map rows_of l.batches.items)) (glue (map stream_of_piece (into_iter_items l.piece-iterator))) ≡ glue (map stream_of_piece l.fn.pieces.items);
  types : All (λ (batch : Batch). types_of batch ≡ l.fn.types) l.batches.items;
  kinds : All (λ (piece : Piece). kinds_of (types_of piece.batch) ≡ kinds_of l.fn.types) (into_iter_items l.piece-iterator);
}
