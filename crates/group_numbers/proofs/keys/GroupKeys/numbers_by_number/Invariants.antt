use Rattle.std.proofs.Common.{◌≡◌, true}
use Rattle.group_numbers.specs.Keys.{AreAt, IsKept, with_keys}
use Rattle.group_numbers.specs.Numbers.{keys_in}
use Rattle.group_numbers.proofs.keys.GroupKeys.numbers_by_number.Given as goal

-- the rows so far
abbrev pub invariant-loop-row : goal.invariant-loop-row
invariant-loop-row l = record {
  kept : IsKept l.self;
  mode : l.self.by_number ≡ true;
  rows : l.self.rows ≡ with_keys l.initial.self.rows (keys_in l.column l.row);
  numbers : AreAt l.self.rows l.numbers.items (keys_in l.column l.row);
}
