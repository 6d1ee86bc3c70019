use Rattle.std.proofs.Common.{◌≡◌, ◌-◌, length}
use Rattle.std.specs.List.{range_with_len}
use Rattle.group_laws.specs.Columns.{column}
use Rattle.aggregate.proofs.FinalLaws.{ahead}
use Rattle.set_rows.specs.Rows.{row_at}
use Rattle.set_rows.proofs.rows.group_rows.Given as goal

-- the rows so far, and those of the groups that are left
abbrev pub invariant-loop-group : goal.invariant-loop-group
invariant-loop-group l =
    column (row_at l.measures l.keys l.columns l.numbered) (range_with_len 0 (length l.keys)) ≡ ahead l.rows.items (column (row_at l.measures l.keys l.columns l.numbered) (range_with_len l.group (length l.keys - l.group)))
