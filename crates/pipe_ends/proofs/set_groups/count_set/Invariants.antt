use Rattle.std.proofs.Common.{◌≡◌, ℕ, ◌<◌, length, get_or, take}
use Rattle.well_typed.specs.Columns.{has_place}
use Rattle.pipe_ends.specs.Counts.{counted}
use Rattle.pipe_ends.proofs.set_groups.count_set.Given as goal

-- the first so many places are counted
abbrev pub invariant-loop-one : goal.invariant-loop-one
invariant-loop-one l = record {
  len : length l.held.items ≡ length l.initial.held.items;
  counts : (k : ℕ) → k < length l.initial.held.items → get_or l.held.items k 0 ≡ counted l.number (get_or l.initial.held.items k 0) (has_place k (take l.one-index l.set));
}
