-- The rows left open so far, and what is to come.
use Rattle.batch.specs.ColumnValues.{values_of}
use Rattle.batch_nodes.specs.Early.{settles}
use Rattle.batch_nodes.proofs.OpenLaws.{IsOpenSoFar}
use Rattle.batch_nodes.proofs.early.rows_left.Given as goal

abbrev pub invariant-loop-i : goal.invariant-loop-i
invariant-loop-i l = IsOpenSoFar (settles l.early) l.rows (values_of l.values.values) l.i l.left.items
