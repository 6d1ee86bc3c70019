-- The answers so far, and what is to come.
use Rattle.std.proofs.Common.{◌≡◌, length}
use Rattle.batch.specs.ColumnValues.{values_of}
use Rattle.batch_nodes.specs.Found.{found_values}
use Rattle.batch_nodes.specs.Options.{is_found, looked, paired}
use Rattle.batch_nodes.proofs.JoinLaws.{IsJoinSoFar}
use Rattle.batch_calls.proofs.options.look.Given as goal

abbrev pub invariant-loop-i : goal.invariant-loop-i
invariant-loop-i l =
    (l.built.ty ≡ l.fn.ty) × (length l.built.values ≡ l.i)
    × IsJoinSoFar is_found looked l.rows (paired (found_values l.values) (values_of l.answers.values)) l.stop (found_values l.options) l.options_stop l.i l.used (paired (found_values l.values) l.built.values)
