-- The first values of the first so many rows.
use Rattle.std.proofs.Common.{◌≡◌, map, take}
use Rattle.plan_denote.specs.Subqueries.{value_in}
use Rattle.sub_query.proofs.worth_of.first_values.Given as goal

abbrev pub invariant-loop-row : goal.invariant-loop-row
invariant-loop-row l = l.values.items ≡ map value_in (take l.row-index l.rows)
