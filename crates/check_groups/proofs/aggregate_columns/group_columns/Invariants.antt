use Rattle.std.proofs.Common.{◌≡◌, map, take}
use Rattle.std.specs.List.{enumerate_from}
use Rattle.plan_verdict.specs.Aggregates as spec
use Rattle.check_groups.proofs.aggregate_columns.group_columns.Given as goal

-- the columns of the first so many
abbrev pub invariant-loop-place : goal.invariant-loop-place
invariant-loop-place l = l.columns ≡ map (spec.group_type l.sets) (take l.place (enumerate_from 0 l.groups))
