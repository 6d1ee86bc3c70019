-- Labours over pieces, and what they make of them.
use Rattle.std.specs.Prelude.{◌≡◌, ℕ, ◌/◌, List, [], Option, Some, None}
use Rattle.std.specs.Borrow.{Bor}

-- it has read and made nothing: the pieces that it is lent, the numbers that it read, and what it made
pub record IsUnused {O : Type 0} (pieces own_pieces loaded : List ℕ) (outs : List O) : Type 0 where
  pub pieces_are : own_pieces ≡ pieces
  pub none_loaded : loaded ≡ []
  pub none_made : outs ≡ []

-- half of the piece, or 0 where there is none
abbrev pub IsHalfOf : Option (Bor ℕ) → ℕ → Type 0
IsHalfOf (Some piece) made = made ≡ piece.now / 2
IsHalfOf None made = made ≡ 0
