use Rattle.std.proofs.Common.{◌<◌, ◌≤◌, ℕ, get_or}
use Rattle.set_places.proofs.counts.leading.Given as goal

-- the rows so far are below the end
abbrev pub invariant-loop-at : goal.invariant-loop-at
invariant-loop-at l = (k d : ℕ) → l.from ≤ k → k < l.at → get_or l.alike k d < l.end
