-- The lists of workers of whom the first did everything.
use Rattle.std.specs.Prelude.{ℕ, ◌-◌, List, [], ◌∷◌, replicate}
use Rattle.std.specs.List.{range_with_len}
use Rattle.run_core.specs.Receipts.{Lists, no_lists}

-- each number below n was claimed and finished, in order
abbrev pub alone : ℕ → Lists
alone n = record { claimed = range_with_len 0 n; offered = []; taken = []; finished = range_with_len 0 n }

-- the first of so many workers did so, and the others did nothing
abbrev pub workers_alone : ℕ → ℕ → List Lists
workers_alone n workers = alone n ∷ replicate (workers - 1) no_lists
