use Rattle.std.proofs.Common.{◌≡◌, All}
use Rattle.batch.specs.declared.batch.Piece.{Piece}
use Rattle.batch.specs.BatchRows.{types_of}
use Rattle.steps_tests.specs.Typed.{numbers}
use Rattle.steps_tests.proofs.batches.random_pieces.Given as goal

-- the pieces so far
abbrev pub invariant-loop : goal.invariant-loop
invariant-loop l = All (λ (piece : Piece). types_of piece.batch ≡ numbers) l.pieces.items
