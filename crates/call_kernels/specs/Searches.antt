-- A search through the texts of a column, one behind the other.
use Rattle.std.specs.Prelude.{◌≡◌, ℕ, ◌<◌, ◌≤◌, List, [], Bool, false, length, slice_index_or}
use Rattle.plan_denote.specs.Texts.{contains}

-- the bits of the first so many texts tell whether they contain the pattern, and none is set behind them
pub record AreMarked (pattern : List ℕ) (texts : List (List ℕ)) (row : ℕ) (bits : List Bool) : Type 0 where
  pub count : length bits ≡ length texts
  pub done : (k : ℕ) → k < row → k < length texts → slice_index_or bits k false ≡ contains (slice_index_or texts k []) pattern
  pub left : (k : ℕ) → row ≤ k → k < length texts → slice_index_or bits k false ≡ false
