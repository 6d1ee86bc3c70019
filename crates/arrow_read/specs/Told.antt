-- What is so of a file's bytes, where a reader tells them.
use Rattle.std.specs.Prelude.{◌≡◌, ℕ, List, Option, Some}

-- the fact holds of the bytes, if they are told
abbrev pub IfTold : Option (List ℕ) → (List ℕ → Type 0) → Type 0
IfTold told P = (bytes : List ℕ) → told ≡ Some bytes → P bytes
