use Rattle.std.proofs.Common.{◌≡◌, length, map, take, drop}
use Rattle.plan_pipes.specs.Pieces.{merged_each}
use Rattle.pipe_round.proofs.merging.merge_each.Given as goal

abbrev pub invariant-loop-at : goal.invariant-loop-at
invariant-loop-at l = record {
  rows : map length l.marks ≡ map length l.initial.marks;
  left : drop l.at l.marks ≡ drop l.at l.initial.marks;
  done : take l.at l.marks ≡ take l.at (merged_each l.initial.marks l.others);
}
