use Rattle.std.proofs.Common.{◌≡◌, ◌++◌, map}
use Rattle.std.specs.Vec.Iter.{into_iter_items}
use Rattle.batch.specs.declared.batch.Piece.{Piece}
use Rattle.set_rels.proofs.pieces.batches_of.Given as goal

-- the batches so far, and those that are left
abbrev pub invariant-loop-piece : goal.invariant-loop-piece
invariant-loop-piece l = l.batches.items ++ map (λ (piece : Piece). piece.batch) (into_iter_items l.piece-iterator) ≡ map (λ (piece : Piece). piece.batch) l.fn.pieces.items
