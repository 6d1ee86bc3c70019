use Rattle.std.proofs.Common.{◌≡◌, drop, length}
use Rattle.std.specs.List.{fold}
use Rattle.set_places.proofs.MarkLaws.{put}
use Rattle.set_places.proofs.marks.mark_all.Given as goal

-- what is marked, with the rows that are left, is what all rows mark
abbrev pub invariant-loop-row : goal.invariant-loop-row
invariant-loop-row l = record {
  count : length l.marks ≡ length l.initial.marks;
  marks : fold (put l.mark) l.marks (drop l.row-index l.rows) ≡ fold (put l.mark) l.initial.marks l.rows;
}
