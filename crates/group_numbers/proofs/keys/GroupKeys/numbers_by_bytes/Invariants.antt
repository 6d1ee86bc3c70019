use Rattle.std.proofs.Common.{◌≡◌, false, map}
use Rattle.std.specs.List.{range_with_len}
use Rattle.row_keys.specs.Keys.{key_of}
use Rattle.group_numbers.specs.Keys.{AreAt, IsKept, with_keys}
use Rattle.group_numbers.proofs.keys.GroupKeys.numbers_by_bytes.Given as goal

-- the rows so far
abbrev pub invariant-loop-row : goal.invariant-loop-row
invariant-loop-row l = record {
  kept : IsKept l.self;
  mode : l.self.by_number ≡ false;
  rows : l.self.rows ≡ with_keys l.initial.self.rows (map (key_of l.columns l.batch) (range_with_len 0 l.row));
  numbers : AreAt l.self.rows l.numbers.items (map (key_of l.columns l.batch) (range_with_len 0 l.row));
}
