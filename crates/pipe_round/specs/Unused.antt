-- Labours over pieces.
use Rattle.std.specs.Prelude.{◌≡◌, ℕ, List, []}
use Rattle.pipe_work.specs.declared.held.HeldPiece.{HeldPiece}

-- it has read and made nothing: the pieces that it is lent, the numbers that it read, and what it made
pub record IsUnused {O : Type 0} (pieces own_pieces : List HeldPiece) (loaded : List ℕ) (outs : List O) : Type 0 where
  pub pieces_are : own_pieces ≡ pieces
  pub none_loaded : loaded ≡ []
  pub none_made : outs ≡ []
