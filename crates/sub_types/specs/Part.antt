-- A part of a list that is lent in place.
use Rattle.std.specs.Prelude.{ℕ, ◌+◌, ◌^◌, ◌<◌, ◌≤◌, List, length}

-- so many from a place on lie in the list, and their ends are numbers of the machine
pub record IsPart {X : Type 0} (from len : ℕ) (xs : List X) : Type 0 where
  pub within : from + len ≤ length xs
  pub fits : from + len < 2 ^ 64
