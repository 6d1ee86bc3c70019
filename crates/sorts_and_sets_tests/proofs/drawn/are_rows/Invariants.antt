use Rattle.std.proofs.Common.{◌≤◌, length}
use Rattle.sorts_and_sets_tests.proofs.drawn.are_rows.Given as goal

abbrev pub invariant-loop-batch : goal.invariant-loop-batch
invariant-loop-batch l = l.at ≤ length l.rows
