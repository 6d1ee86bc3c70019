use Rattle.std.proofs.Common.{◌≡◌}
use Rattle.pipe_round_tests.proofs.SpecLaws.{number}
use Rattle.pipe_round_tests.proofs.batches.column_of.Given as goal

abbrev pub invariant-loop-row : goal.invariant-loop-row
invariant-loop-row l = l.builder.ty ≡ number
