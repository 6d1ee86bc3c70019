use Rattle.std.proofs.Common.{◌≡◌, ◌∷◌, [], All}
use Rattle.batch.specs.declared.batch.Piece.{Piece}
use Rattle.batch.specs.BatchRows.{types_of}
use Rattle.worked_sorts_tests.specs.declared.columns.TheConstants.{NUMBER}
use Rattle.worked_sorts_tests.proofs.sets.inputs_of.Given as goal

-- the inputs so far
abbrev pub invariant-loop-part : goal.invariant-loop-part
invariant-loop-part l = record {
  next : goal.iterator-loop-part.can_next l.part-iterator;
  ends : goal.iterator-loop-part.is_finite l.part-iterator;
  types : All (λ input. All (λ (piece : Piece). types_of piece.batch ≡ NUMBER ∷ []) input.items) l.inputs.items;
}
