use Rattle.std.proofs.Common.{◌≡◌, map}
use Rattle.sub_types.specs.Stream.{followed_by, glue}
use Rattle.row_steps.specs.Seen.{seen}
use Rattle.row_steps.proofs.glue.glued.Given as goal

-- what is glued so far, and what is left
abbrev pub invariant-loop-stream : goal.invariant-loop-stream
invariant-loop-stream g l = followed_by (seen l.all) (glue (map seen l.stream-iterator.rest.items)) ≡ glue (map seen l.fn.streams)
