use Rattle.std.proofs.Common.{◌≡◌, drop, map}
use Rattle.sub_types.specs.Stream.{followed_by}
use Rattle.plan_denote.specs.Denote.{any_measure}
use Rattle.row_steps.specs.Seen.{seen}
use Rattle.row_groups.proofs.GroupSetLaws.{rows_from}
use Rattle.row_groups.proofs.group_sets.rows_of_sets.Given as goal

-- the rows so far, and those of the sets that are left
abbrev pub invariant-loop-place : goal.invariant-loop-place
invariant-loop-place l =
    followed_by (seen l.all) (rows_from l.fn.number l.fn.width (map any_measure l.fn.measures) l.fn.entries l.fn.sets l.place (drop l.place l.sets))
    ≡ rows_from l.fn.number l.fn.width (map any_measure l.fn.measures) l.fn.entries l.fn.sets 0 l.fn.sets
