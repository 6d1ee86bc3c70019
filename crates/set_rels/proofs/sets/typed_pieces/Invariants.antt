use Rattle.std.proofs.Common.{◌≡◌, ◌++◌, map, All}
use Rattle.std.specs.List.{flat_map}
use Rattle.std.specs.Vec.Iter.{into_iter_items}
use Rattle.batch.specs.declared.batch.Piece.{Piece}
use Rattle.batch.specs.BatchRows.{types_of, stream_of_piece}
use Rattle.set_rels.specs.Inputs.{HasKinds}
use Rattle.set_rels.proofs.sets.typed_pieces.Given as goal

-- the pieces so far, and those of the inputs that are left
abbrev pub invariant-loop-pieces : goal.invariant-loop-pieces
invariant-loop-pieces l = record {
  streams : map stream_of_piece l.all.items ++ flat_map (λ input. map stream_of_piece input.items) (into_iter_items l.pieces-iterator) ≡ flat_map (λ input. map stream_of_piece input.items) l.fn.inputs.items;
  types : All (λ (piece : Piece). types_of piece.batch ≡ l.types) l.all.items;
  kinds : All (λ input. All (λ (piece : Piece). HasKinds l.types piece.batch) input.items) (into_iter_items l.pieces-iterator);
}
