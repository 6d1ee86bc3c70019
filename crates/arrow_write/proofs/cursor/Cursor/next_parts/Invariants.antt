use Rattle.std.proofs.Common.{◌≡◌, ◌+◌, ◌-◌, length}
use Rattle.std.specs.List.{All, sum_by}
use Rattle.arrow_write.specs.Cut.{IsInside, rows_before, IsPartOf, rows_of_part, Follow}
use Rattle.arrow_write.proofs.cursor.Cursor.next_parts.Given as goal

abbrev pub invariant-loop-left : goal.invariant-loop-left
invariant-loop-left l = record {
  follow : Follow l.batches (rows_before l.batches l.fn.self) l.parts.items;
  so_far : sum_by rows_of_part l.parts.items + l.left ≡ l.count;
  moved : rows_before l.batches l.self + l.left ≡ rows_before l.batches l.fn.self + l.count;
  lie : All (IsPartOf l.batches) l.parts.items;
  inside : IsInside l.batches l.self;
}

abbrev pub decreases-loop-left : goal.decreases-loop-left
decreases-loop-left l = length l.batches - l.self.batch + l.left
