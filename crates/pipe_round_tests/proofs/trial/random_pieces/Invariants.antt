use Rattle.std.proofs.Common.{◌≡◌, ◌∷◌, [], All}
use Rattle.batch.specs.declared.batch.Piece.{Piece}
use Rattle.batch.specs.BatchRows.{types_of}
use Rattle.pipe_round_tests.specs.Steps.{number}
use Rattle.pipe_round_tests.proofs.trial.random_pieces.Given as goal

abbrev pub invariant-loop : goal.invariant-loop
invariant-loop l = All (λ (piece : Piece). types_of piece.batch ≡ number ∷ number ∷ []) l.pieces.items
