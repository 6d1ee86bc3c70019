-- Lists as multisets: how often a number stands in a list.
use Rattle.std.specs.Prelude.{ℕ, ◌≤◌, List, count_by, ◌==◌, nat_lt, if◌then◌else◌}

-- how often the number stands in the list
abbrev pub times : ℕ → List ℕ → ℕ
times x xs = count_by (λ y. y == x) xs

-- each number below n once
abbrev pub once_below : ℕ → ℕ → ℕ
once_below x n = if nat_lt x n then 1 else 0

-- each number stands in the first list at most as often as in the second
abbrev pub IsPart : List ℕ → List ℕ → Type 0
IsPart xs ys = (x : ℕ) → times x xs ≤ times x ys
