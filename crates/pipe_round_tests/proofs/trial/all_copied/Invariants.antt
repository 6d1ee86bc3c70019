use Rattle.std.proofs.Common.{◌≡◌, ◌∷◌, [], All}
use Rattle.batch.specs.declared.batch.Piece.{Piece}
use Rattle.batch.specs.BatchRows.{types_of}
use Rattle.pipe_round_tests.specs.Steps.{number}
use Rattle.pipe_round_tests.proofs.trial.all_copied.Given as goal

abbrev pub invariant-loop-piece : goal.invariant-loop-piece
invariant-loop-piece l = All (λ (piece : Piece). types_of piece.batch ≡ number ∷ number ∷ []) l.copies.items
