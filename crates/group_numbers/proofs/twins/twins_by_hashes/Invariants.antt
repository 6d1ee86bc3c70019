use Rattle.std.proofs.Common.{◌≡◌, ◌≤◌, length}
use Rattle.std.specs.List.{All}
use Rattle.group_numbers.specs.Twins.{AreTwins}
use Rattle.group_numbers.proofs.twins.twins_by_hashes.Given as goal

-- the rows so far
abbrev pub invariant-loop-row : goal.invariant-loop-row
invariant-loop-row l = record {
  twins : AreTwins l.columns l.batch l.row l.twins.items;
  remembered : All (λ rows. rows ≤ l.row) l.remembered.items;
  places : length l.remembered.items ≡ 256;
}
