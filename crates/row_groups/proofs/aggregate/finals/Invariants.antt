use Rattle.std.proofs.Common.{◌≡◌, drop, map}
use Rattle.row_steps.proofs.ListLaws.{behind}
use Rattle.row_groups.proofs.AggregateLaws.{finals_from}
use Rattle.row_groups.proofs.aggregate.finals.Given as goal

-- the values so far, and what the measures give that are left
abbrev pub invariant-loop-place : goal.invariant-loop-place
invariant-loop-place g l =
    behind l.values (finals_from l.fn.entries l.fn.key l.place (map g.M.AnyMeasure.as_any (drop l.place l.measures)))
    ≡ finals_from l.fn.entries l.fn.key 0 (map g.M.AnyMeasure.as_any l.fn.measures)
