-- Rows in order.
use Rattle.std.specs.Prelude.{ℕ, ◌+◌, List, [], ◌∷◌, Bool, true, false, ◌&&◌, nat_le}
use Rattle.std.specs.List.{range_with_len}

-- each is at least the low end, and greater than the one before it
abbrev pub rises_from : ℕ → List ℕ → Bool
rises_from low [] = true
rises_from low (x ∷ xs) = nat_le low x && rises_from (x + 1) xs

-- each is greater than the one before it
abbrev pub rises : List ℕ → Bool
rises = rises_from 0

-- the first so many rows, or those of a list
abbrev pub seen : Bool → ℕ → List ℕ → List ℕ
seen true count listed = range_with_len 0 count
seen false count listed = listed
