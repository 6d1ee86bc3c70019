use Rattle.std.proofs.Common.{◌≤◌, length}
use Rattle.sorts_and_sets_tests.proofs.sets.is_stream.Given as goal

abbrev pub invariant-loop-piece : goal.invariant-loop-piece
invariant-loop-piece l = l.at ≤ length l.rows
