use Rattle.std.proofs.Common.{◌≡◌, false, take}
use Rattle.group_numbers.specs.Keys.{AreAt, IsKept, with_keys}
use Rattle.group_numbers.proofs.keys.GroupKeys.numbers_from_bytes.Given as goal

-- the keys so far
abbrev pub invariant-loop-from : goal.invariant-loop-from
invariant-loop-from l = record {
  kept : IsKept l.self;
  mode : l.self.by_number ≡ false;
  rows : l.self.rows ≡ with_keys l.initial.self.rows (take l.from l.later.rows);
  numbers : AreAt l.self.rows l.numbers.items (take l.from l.later.rows);
}
