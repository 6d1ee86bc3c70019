-- The rows passed end at the place or before it.
use Rattle.std.proofs.Common.{ℕ, ◌-◌, ◌<◌, ◌≤◌, length, get_or}
use Rattle.call_kernels.proofs.searches.row_at.Given as goal

abbrev pub invariant-loop-row : goal.invariant-loop-row
invariant-loop-row l = (l.from ≤ l.row) × (l.row < length l.ends) × ((k : ℕ) → l.from ≤ k → k < l.row → get_or l.ends k 0 ≤ l.place)

abbrev pub decreases-loop-row : goal.decreases-loop-row
decreases-loop-row l = length l.ends - l.row
