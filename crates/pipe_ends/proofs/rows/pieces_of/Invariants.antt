use Rattle.std.proofs.Common.{◌≡◌, ◌++◌, None, map, All}
use Rattle.std.specs.Vec.Iter.{into_iter_items}
use Rattle.batch.specs.declared.batch.Piece.{Piece}
use Rattle.pipe_ends.proofs.rows.pieces_of.Given as goal

-- the batches so far, and those that are left
abbrev pub invariant-loop-batch : goal.invariant-loop-batch
invariant-loop-batch l = record {
  batches : map (λ (piece : Piece). piece.batch) l.pieces.items ++ into_iter_items l.batch-iterator ≡ l.fn.batches.items;
  ends : All (λ (piece : Piece). piece.end ≡ None) l.pieces.items;
}
