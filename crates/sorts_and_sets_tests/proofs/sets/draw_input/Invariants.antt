use Rattle.std.proofs.Common.{◌≡◌, ◌∷◌, [], All}
use Rattle.batch.specs.declared.batch.Piece.{Piece}
use Rattle.batch.specs.BatchRows.{types_of}
use Rattle.sorts_and_sets_tests.specs.declared.drawn.TheConstants.{NUMBER, BINARY}
use Rattle.sorts_and_sets_tests.proofs.sets.draw_input.Given as goal

-- the pieces so far
abbrev pub invariant-loop : goal.invariant-loop
invariant-loop l = All (λ (piece : Piece). types_of piece.batch ≡ NUMBER ∷ BINARY ∷ []) l.pieces.items
