-- The first values of the first so many rows are pushed.
use Rattle.std.proofs.Common.{◌≡◌, ◌++◌, map, take}
use Rattle.batch.specs.BatchRows.{rows_of}
use Rattle.plan_denote.specs.Subqueries.{value_in}
use Rattle.sub_query.proofs.worth_of.push_first_values.Given as goal

abbrev pub invariant-loop-row : goal.invariant-loop-row
invariant-loop-row l = l.values.items ≡ l.initial.values.items ++ map value_in (take l.row (rows_of l.batch))
