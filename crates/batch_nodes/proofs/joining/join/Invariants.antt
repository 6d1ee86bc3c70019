-- The values so far, and what is to come.
use Rattle.std.proofs.Common.{◌≡◌}
use Rattle.batch.specs.ColumnValues.{values_of}
use Rattle.batch_nodes.specs.Found.{found_values}
use Rattle.batch_nodes.specs.Early.{settles, merges}
use Rattle.batch_nodes.proofs.JoinLaws.{IsJoinSoFar}
use Rattle.batch_nodes.proofs.joining.join.Given as goal

abbrev pub invariant-loop-i : goal.invariant-loop-i
invariant-loop-i l = (l.built.ty ≡ l.fn.ty) × IsJoinSoFar (settles l.early) (merges l.early) l.rows (values_of l.first.values) l.first_stop (found_values l.rest) l.rest_stop l.i l.used l.built.values
