use Rattle.std.proofs.Common.{◌≡◌, ◌++◌, length, map}
use Rattle.std.specs.List.{All}
use Rattle.std.specs.Vec.Iter.{into_iter_items}
use Rattle.pipe_work.specs.declared.kept.Kept.{Kept}
use Rattle.pipe_round.specs.Merged.{HaveSameRows, merged_all}
use Rattle.pipe_round.proofs.merging.add_kept.Given as goal

-- what is left, behind what is done, is what all gives
abbrev pub invariant-loop-one : goal.invariant-loop-one
invariant-loop-one l = record {
  parts : l.out.items ++ map (λ (one : Kept). one.part) (into_iter_items l.one-iterator) ≡ l.initial.out.items ++ map (λ (one : Kept). one.part) l.fn.kept.items;
  marks : merged_all l.marks (map (λ (one : Kept). one.marks.items) (into_iter_items l.one-iterator)) ≡ merged_all l.initial.marks (map (λ (one : Kept). one.marks.items) l.fn.kept.items);
  rows : map length l.marks ≡ map length l.initial.marks;
  same : All (HaveSameRows l.initial.marks) (into_iter_items l.one-iterator);
}
