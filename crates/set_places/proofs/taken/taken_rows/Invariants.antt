use Rattle.std.proofs.Common.{◌≡◌, length, map}
use Rattle.std.specs.List.{range_with_len}
use Rattle.set_places.specs.Marks.{marked}
use Rattle.set_places.specs.Taken.{takes}
use Rattle.set_places.proofs.taken.taken_rows.Given as goal

-- the rows are marked that are like one of those so far
abbrev pub invariant-loop-row : goal.invariant-loop-row
invariant-loop-row g l = record {
  count : length l.marks.items ≡ l.first;
  marks : l.marks.items ≡ map (marked (g.K.Keys.same l.chains.keys l.chains.keys) (takes (g.K.Keys.same l.chains.keys l.chains.keys) l.op l.first l.others) l.row) (range_with_len 0 l.first);
}
