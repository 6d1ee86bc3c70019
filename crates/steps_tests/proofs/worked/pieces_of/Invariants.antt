use Rattle.std.proofs.Common.{◌≡◌, All}
use Rattle.batch.specs.declared.batch.Piece.{Piece}
use Rattle.batch.specs.BatchRows.{types_of}
use Rattle.steps_tests.specs.Typed.{numbers}
use Rattle.steps_tests.proofs.worked.pieces_of.Given as goal

-- the pieces so far
abbrev pub invariant-loop-part : goal.invariant-loop-part
invariant-loop-part l = record {
  next : goal.iterator-loop-part.can_next l.part-iterator;
  ends : goal.iterator-loop-part.is_finite l.part-iterator;
  types : All (λ (piece : Piece). types_of piece.batch ≡ numbers) l.pieces.items;
}
