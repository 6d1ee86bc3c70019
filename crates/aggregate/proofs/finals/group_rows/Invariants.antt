use Rattle.std.proofs.Common.{◌≡◌, ◌-◌, length}
use Rattle.std.specs.List.{range_with_len}
use Rattle.group_laws.specs.Columns.{column}
use Rattle.aggregate.specs.Finals.{row_at}
use Rattle.aggregate.proofs.FinalLaws.{ahead}
use Rattle.aggregate.proofs.finals.group_rows.Given as goal

-- the rows so far, and those of the groups that are left
abbrev pub invariant-loop-group : goal.invariant-loop-group
invariant-loop-group l =
    column (row_at l.spec l.groups) (range_with_len 0 (length l.groups.keys.rows)) ≡ ahead l.rows.items (column (row_at l.spec l.groups) (range_with_len l.group (length l.groups.keys.rows - l.group)))
