-- The first values of the rows of the first so many batches.
use Rattle.std.proofs.Common.{◌≡◌, map, take}
use Rattle.std.specs.List.{flat_map}
use Rattle.batch.specs.BatchRows.{rows_of}
use Rattle.plan_denote.specs.Subqueries.{value_in}
use Rattle.sub_query.proofs.worth_of.first_values_of_batches.Given as goal

abbrev pub invariant-loop-batch : goal.invariant-loop-batch
invariant-loop-batch l = l.values.items ≡ map value_in (flat_map rows_of (take l.batch-index l.batches))
