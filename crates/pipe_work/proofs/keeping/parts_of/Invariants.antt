use Rattle.std.specs.List.{All}
use Rattle.std.specs.Vec.Iter.{into_iter_items}
use Rattle.pipe_steps.specs.Behind.{IsStored}
use Rattle.pipe_work.proofs.KeptLaws.{AreSoFar, types_behind}
use Rattle.pipe_work.proofs.keeping.parts_of.Given as goal

abbrev pub invariant-loop-piece : goal.invariant-loop-piece
invariant-loop-piece l = record {
  parts : AreSoFar l.pipe.breaker l.fn.pieces.items l.parts.items (into_iter_items l.piece-iterator);
  stored : All (IsStored (types_behind l.pipe)) (into_iter_items l.piece-iterator);
}
