-- The pieces of a message, which its records are read from one after the other.
use Rattle.std.specs.Prelude.{◌≡◌, ℕ, List, [], ◌∷◌, true, map, drop, Option, Some, None}
use Rattle.std.specs.Borrow.{Bor}
use Rattle.std.specs.Global.{Vec}
use Rattle.std.specs.List.{list_all}
use Rattle.pb_wire.specs.declared.record.Record.{Record}
use Rattle.pb_wire.specs.Seen.{field_seen}
use Rattle.pb_wire.specs.Payloads.{fields_of, is_whole}

abbrev pub pieces_of : List (Bor (List ℕ)) → List (List ℕ)
pieces_of slices = map (λ slice. slice.now) slices

-- what is left of a piece and the pieces from a place on
abbrev pub left_pieces : List ℕ → List (Bor (List ℕ)) → ℕ → List (List ℕ)
left_pieces rest later index = rest ∷ pieces_of (drop index later)

-- each piece holds whole records
abbrev pub AreWhole : List (List ℕ) → Type 0
AreWhole pieces = list_all is_whole pieces ≡ true

-- what was given is the first of the records that were left
abbrev pub IsFirstRecord : List ℕ → List ℕ → Option Record → Type 0
IsFirstRecord old new None = (fields_of old ≡ []) × (new ≡ old)
IsFirstRecord old new (Some found) = fields_of old ≡ field_seen found ∷ fields_of new

-- the later of the pieces: those of a message's own, or else those that are known
abbrev pub later_of : List (Bor (List ℕ)) → List (Bor (List ℕ)) → List (Bor (List ℕ))
later_of [] known = known
later_of (piece ∷ own) known = piece ∷ own

-- the pieces that were found, or none
abbrev pub pieces_found : Option (Bor (List ℕ) × Vec (Bor (List ℕ)) × Bor (List (Bor (List ℕ)))) → List (List ℕ)
pieces_found None = []
pieces_found (Some found) = found.0.now ∷ pieces_of (later_of found.1.items found.2.now)
