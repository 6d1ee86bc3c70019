use Rattle.std.proofs.Common.{◌≡◌, ◌++◌, map}
use Rattle.std.specs.List.{All}
use Rattle.std.specs.Vec.Iter.{into_iter_items}
use Rattle.batch.specs.declared.batch.Piece.{Piece}
use Rattle.batch.specs.BatchRows.{types_of}
use Rattle.pipe_steps.specs.Ready.{IsReady}
use Rattle.pipe_work.specs.declared.held.HeldPiece.{HeldPiece}
use Rattle.pipe_work.proofs.holding.hold_pieces.Given as goal

abbrev pub invariant-loop-piece : goal.invariant-loop-piece
invariant-loop-piece l = record {
  all : map (λ (one : HeldPiece). one.piece) l.held.items ++ into_iter_items l.piece-iterator ≡ l.fn.pieces.items;
  of_pipe : All (λ (one : HeldPiece). one.pipe.now ≡ l.pipe) l.held.items;
  typed : All (λ (piece : Piece). types_of piece.batch ≡ l.pipe.types) (into_iter_items l.piece-iterator);
  ready : All (λ (piece : Piece). IsReady l.pipe.steps piece.batch) (into_iter_items l.piece-iterator);
}
