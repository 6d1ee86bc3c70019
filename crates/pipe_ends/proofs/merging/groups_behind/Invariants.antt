use Rattle.std.proofs.Common.{List, All}
use Rattle.std.specs.Vec.Iter.{into_iter_items}
use Rattle.sub_types.specs.Stream.{Stream, followed_by, glue}
use Rattle.plan_denote.specs.Rows.{Row}
use Rattle.aggregate.specs.States.{IsOf, IsFor}
use Rattle.pipe_ends.specs.Merged.{AreOf, IsSoFar}
use Rattle.pipe_ends.proofs.merging.groups_behind.Given as goal

-- what is known so far, and what is left
abbrev pub invariant-loop-later : goal.invariant-loop-later
invariant-loop-later l = record {
  of : (rows : Stream Row) (streams : List (Stream Row)) → IsOf l.spec rows l.fn.first → AreOf (IsOf l.spec) streams l.fn.rest.items → IsSoFar (IsOf l.spec) (followed_by rows (glue streams)) l.known (into_iter_items l.later-iterator);
  over : IsFor l.types l.spec l.known;
  given : All (IsFor l.types l.spec) (into_iter_items l.later-iterator);
}
