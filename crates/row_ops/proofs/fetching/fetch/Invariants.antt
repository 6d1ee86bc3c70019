use Rattle.std.proofs.Common.{◌≡◌, ◌++◌, map}
use Rattle.std.specs.Vec.Iter.{into_iter_items}
use Rattle.batch.specs.declared.batch.Piece.{Piece}
use Rattle.batch.specs.BatchRows.{stream_of_piece, types_of}
use Rattle.plan_pipes.specs.FetchPieces.{fetched_pieces}
use Rattle.row_ops.proofs.fetching.fetch.Given as goal

-- what was fetched so far, and behind it what is fetched from the pieces that are left
abbrev pub invariant-loop-piece : goal.invariant-loop-piece
invariant-loop-piece l =
    (map stream_of_piece l.pieces.items ++ fetched_pieces l.offset l.count (map stream_of_piece (into_iter_items l.piece-iterator)) ≡ fetched_pieces l.fn.offset l.fn.count (map stream_of_piece l.fn.input.items))
    × (map (λ (piece : Piece). types_of piece.batch) l.pieces.items ++ map (λ (piece : Piece). types_of piece.batch) (into_iter_items l.piece-iterator) ≡ map (λ (piece : Piece). types_of piece.batch) l.fn.input.items)
