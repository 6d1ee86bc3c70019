-- Claims and their seats as callers see them.
use Rattle.std.specs.Prelude.{◌≡◌, ℕ, ◌≤◌, Bool, List}
use Rattle.atomic_table.specs.Seated.{TableId}
use Rattle.run_core.specs.Counts.{times, once_below}

-- which table it is, how many numbers there are to draw, and how many shares
pub record ClaimTable : Type 0 where
  pub table : TableId
  pub count : ℕ
  pub seats : ℕ

-- whose seat it is, the numbers that it drew in order, whether it has met the end, and its share
pub record SeatView : Type 0 where
  pub of : ClaimTable
  pub numbers : List ℕ
  pub ended : Bool
  pub share : ℕ

-- each number below n, once
abbrev pub IsEachOnce : ℕ → List ℕ → Type 0
IsEachOnce n xs = (x : ℕ) → times x xs ≡ once_below x n

-- numbers below n, no two alike
abbrev pub AreApart : ℕ → List ℕ → Type 0
AreApart n xs = (x : ℕ) → times x xs ≤ once_below x n
