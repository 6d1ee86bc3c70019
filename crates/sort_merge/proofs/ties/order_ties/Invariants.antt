use Rattle.std.proofs.Common.{length, ◌-◌}
use Rattle.batch_places.specs.BatchRow.{has_row, row_at}
use Rattle.sort_merge.proofs.TieLaws.{IsOrderedTo}
use Rattle.sort_merge.proofs.ties.order_ties.Given as goal

-- the rows of the stretches so far are in order
abbrev pub invariant-loop-from : goal.invariant-loop-from
invariant-loop-from l = IsOrderedTo l.keys (has_row l.batch) (row_at l.batch) l.fn.rows l.from l.rows

abbrev pub decreases-loop-from : goal.decreases-loop-from
decreases-loop-from l = length l.rows - l.from
