use Rattle.std.proofs.Common.{◌≡◌, ◌++◌, map, All}
use Rattle.std.specs.Vec.Iter.{into_iter_items}
use Rattle.batch.specs.declared.batch.Piece.{Piece}
use Rattle.batch.specs.BatchRows.{types_of, stream_of_piece}
use Rattle.set_rels.specs.Inputs.{HasKinds}
use Rattle.set_rels.proofs.typed.push_typed.Given as goal

-- the pieces so far, and those that are left
abbrev pub invariant-loop-piece : goal.invariant-loop-piece
invariant-loop-piece l = record {
  streams : map stream_of_piece l.into.items ++ map stream_of_piece (into_iter_items l.piece-iterator) ≡ map stream_of_piece l.initial.into.items ++ map stream_of_piece l.fn.pieces.items;
  types : All (λ (piece : Piece). types_of piece.batch ≡ l.types) l.into.items;
  kinds : All (λ (piece : Piece). HasKinds l.types piece.batch) (into_iter_items l.piece-iterator);
}
