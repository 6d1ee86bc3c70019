use Rattle.std.proofs.Common.{◌≡◌, All}
use Rattle.std.specs.Vec.Iter.{into_iter_items}
use Rattle.batch.specs.declared.batch.Piece.{Piece}
use Rattle.batch.specs.BatchRows.{types_of}
use Rattle.steps_tests.specs.Typed.{numbers}
use Rattle.steps_tests.proofs.steps.filtered_pieces.Given as goal

-- the pieces that are left
abbrev pub invariant-loop-piece : goal.invariant-loop-piece
invariant-loop-piece l = All (λ (piece : Piece). types_of piece.batch ≡ numbers) (into_iter_items l.piece-iterator)
