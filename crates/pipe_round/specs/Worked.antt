-- What is made of the piece with a number.
use Rattle.std.specs.Prelude.{ℕ, List, Option}
use Rattle.std.specs.Borrow.{Bor}
use Rattle.round_end.specs.declared.outcome.Outcome.{Outcome}
use Rattle.piece_source.specs.Pieces.{IsPieceAt}
use Rattle.pipe_work.specs.declared.held.HeldPiece.{HeldPiece}
use Rattle.pipe_work.specs.declared.kept.Kept.{Kept}
use Rattle.pipe_work.specs.Held.{IsMadeOf}

-- what was made of the piece at the number
pub record IsMadeAt (pieces : List HeldPiece) (number : ℕ) (made : Outcome Kept) : Type 0 where
  pub given : Option (Bor HeldPiece)
  pub at : IsPieceAt pieces number given
  pub made_of : IsMadeOf given made
