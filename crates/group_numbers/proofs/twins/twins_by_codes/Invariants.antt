use Rattle.std.proofs.Common.{◌≡◌, ◌≤◌, ℕ, List, length}
use Rattle.std.specs.List.{All}
use Rattle.std.specs.Vec.{vec_capacity}
use Rattle.batch.specs.declared.batch.Batch.{Batch}
use Rattle.group_numbers.specs.Codes.{AreCodes}
use Rattle.group_numbers.specs.Twins.{AreTwins}
use Rattle.group_numbers.proofs.twins.twins_by_codes.Given as goal

-- the rows so far
abbrev pub invariant-loop-row : goal.invariant-loop-row
invariant-loop-row l = record {
  twins : (columns : List ℕ) (batch : Batch) → AreCodes columns batch l.codes → AreTwins columns batch l.row l.twins.items;
  remembered : All (λ remembered. remembered ≤ l.row) l.remembered.items;
  places : length l.remembered.items ≡ 256;
  long : length l.twins.items ≡ l.row;
  room : vec_capacity l.twins ≡ length l.codes;
}
