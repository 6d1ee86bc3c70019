-- The buffers of a column as a list.
use Rattle.std.specs.Prelude.{ℕ, List, [], ◌∷◌, Option, Some, None}
use Rattle.std.specs.Borrow.{Bor}
use Rattle.arrow_decode.specs.declared.extents.Buffers.{Buffers}

-- one more buffer, if there is one
abbrev pub last_seen : Option (Bor (List ℕ)) → List (List ℕ)
last_seen None = []
last_seen (Some bytes) = bytes.now ∷ []

abbrev pub buffers_seen : Buffers → List (List ℕ)
buffers_seen buffers = buffers.validity.now ∷ buffers.first.now ∷ last_seen buffers.second
