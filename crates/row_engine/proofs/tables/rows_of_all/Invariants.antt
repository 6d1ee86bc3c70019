use Rattle.std.proofs.Common.{◌≡◌, ◌++◌, drop}
use Rattle.std.specs.List.{flat_map}
use Rattle.batch.specs.BatchRows.{rows_of}
use Rattle.row_engine.proofs.tables.rows_of_all.Given as goal

-- the rows so far, and those of the batches that are left
abbrev pub invariant-loop-batch : goal.invariant-loop-batch
invariant-loop-batch l = l.rows ++ flat_map rows_of (drop l.batch-index l.batches) ≡ flat_map rows_of l.fn.batches
