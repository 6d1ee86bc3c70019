-- The rows left open so far, and what is to come.
use Rattle.batch.specs.ColumnValues.{values_of}
use Rattle.batch_nodes.specs.Found.{found_values}
use Rattle.batch_nodes.specs.Options.{is_found, paired}
use Rattle.batch_nodes.proofs.OpenLaws.{IsOpenSoFar}
use Rattle.batch_calls.proofs.options.rows_sought.Given as goal

abbrev pub invariant-loop-i : goal.invariant-loop-i
invariant-loop-i l = IsOpenSoFar is_found l.rows (paired (found_values l.fn.values) (values_of l.answers.values)) l.i l.left.items
