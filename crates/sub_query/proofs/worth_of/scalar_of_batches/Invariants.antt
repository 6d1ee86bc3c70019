-- No row so far, or one.
use Rattle.std.proofs.Common.{take}
use Rattle.std.specs.List.{flat_map}
use Rattle.batch.specs.BatchRows.{rows_of}
use Rattle.sub_query.proofs.RowLaws.{IsFound}
use Rattle.sub_query.proofs.worth_of.scalar_of_batches.Given as goal

abbrev pub invariant-loop-batch : goal.invariant-loop-batch
invariant-loop-batch l = IsFound l.is_found l.found (flat_map rows_of (take l.batch-index l.batches))
