-- The payloads of a message's fields, a list for each number.
use Rattle.std.specs.Prelude.{◌≡◌, ℕ, suc, List, [], ◌∷◌, ◌++◌}
use Rattle.std.specs.Borrow.{Bor}
use Rattle.std.specs.Global.{Vec}
use Rattle.pb_wire.specs.Payloads.{Field, blocks}
use Rattle.plan_scan.specs.Pieces.{pieces_of}

-- the lists from a number on have the payloads of their fields, but for those of the records that are left
abbrev pub AreIndexed : ℕ → List (Vec (Bor (List ℕ))) → List Field → List Field → Type 0
AreIndexed number [] left all = Unit
AreIndexed number (found ∷ index) left all = (pieces_of found.items ++ blocks number left ≡ blocks number all) × AreIndexed (suc number) index left all

-- the lists have the payloads of their fields
abbrev pub IsIndex : List (Vec (Bor (List ℕ))) → List Field → Type 0
IsIndex index fields = AreIndexed 0 index [] fields
