use Rattle.std.proofs.Common.{◌≡◌, ◌++◌, drop}
use Rattle.batch.specs.BatchRows.{rows_of}
use Rattle.row_engine.proofs.tables.push_rows.Given as goal

-- the rows so far, and those of the batch that are left
abbrev pub invariant-loop-row : goal.invariant-loop-row
invariant-loop-row l = l.rows ++ drop l.row (rows_of l.fn.batch) ≡ l.fn.rows ++ rows_of l.fn.batch
