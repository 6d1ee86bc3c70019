use Rattle.std.proofs.Common.{◌≡◌, ◌++◌, [], drop, slice_index_or}
use Rattle.batch.specs.BatchRows.{rows_of}
use Rattle.row_engine.proofs.tables.row_at.Given as goal

-- the values so far, and those that are left
abbrev pub invariant-loop-column : goal.invariant-loop-column
invariant-loop-column l = l.values ++ drop l.column (slice_index_or (rows_of l.batch) l.row []) ≡ slice_index_or (rows_of l.fn.batch) l.fn.row []
