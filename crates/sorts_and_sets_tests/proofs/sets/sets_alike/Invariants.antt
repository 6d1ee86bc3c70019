use Rattle.std.proofs.Common.{◌≡◌, ◌∷◌, [], All}
use Rattle.batch.specs.declared.batch.Piece.{Piece}
use Rattle.batch.specs.BatchRows.{types_of}
use Rattle.sorts_and_sets_tests.specs.declared.drawn.TheConstants.{NUMBER, BINARY}
use Rattle.sorts_and_sets_tests.proofs.sets.sets_alike.Given as goal

-- the inputs so far
abbrev pub invariant-loop : goal.invariant-loop
invariant-loop l = All (λ input. All (λ (piece : Piece). types_of piece.batch ≡ NUMBER ∷ BINARY ∷ []) input.items) l.inputs.items
