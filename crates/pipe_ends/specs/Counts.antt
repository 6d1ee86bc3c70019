-- How many sets hold a group, up to the first that doesn't.
use Rattle.std.specs.Prelude.{ℕ, ◌+◌, ◌==◌, Bool, true, false, if◌then◌else◌}

-- the count after the set with this number, by whether it holds the group
abbrev pub counted : ℕ → ℕ → Bool → ℕ
counted number count true = if count == number then number + 1 else count
counted number count false = count
