use Rattle.std.proofs.Common.{◌≡◌, ℕ, ◌<◌, ◌≤◌, ◌==◌, length, get_or, take}
use Rattle.std.specs.List.{list_all}
use Rattle.well_typed.specs.Columns.{has_place}
use Rattle.pipe_ends.proofs.set_groups.sets_with.Given as goal

-- the groups that the first so many sets hold are counted so often
abbrev pub invariant-loop-number : goal.invariant-loop-number
invariant-loop-number l = record {
  len : length l.held.items ≡ l.count;
  all : (k : ℕ) → k < l.count → (get_or l.held.items k 0 ≤ l.number) × ((get_or l.held.items k 0 == l.number) ≡ list_all (has_place k) (take l.number l.sets));
}
