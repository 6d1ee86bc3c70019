-- Which piece belongs to a number.
use Rattle.std.specs.Prelude.{◌≡◌, ℕ, List, Option, Some, None, slice_get}
use Rattle.std.specs.Borrow.{Bor}

-- the piece at the number, or none past the last
abbrev pub IsPieceAt : {P : Type 0} → List P → ℕ → Option (Bor P) → Type 0
IsPieceAt pieces number None = slice_get pieces number ≡ None
IsPieceAt pieces number (Some piece) = slice_get pieces number ≡ Some piece.now
