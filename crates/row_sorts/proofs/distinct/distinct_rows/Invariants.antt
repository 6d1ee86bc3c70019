use Rattle.std.proofs.Common.{◌≡◌, ◌++◌}
use Rattle.plan_denote.specs.Distinct.{distinct, is_same_row}
use Rattle.row_sorts.proofs.DistinctLaws.{news}
use Rattle.row_sorts.proofs.distinct.distinct_rows.Given as goal

-- what is found so far, and what is new of what is left
abbrev pub invariant-loop-row : goal.invariant-loop-row
invariant-loop-row l = l.found ++ news is_same_row l.found l.row-iterator.rest.items ≡ distinct is_same_row l.fn.rows
