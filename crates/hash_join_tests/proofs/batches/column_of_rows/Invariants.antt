use Rattle.std.proofs.Common.{◌≡◌}
use Rattle.hash_join_tests.specs.Typed.{number}
use Rattle.hash_join_tests.proofs.batches.column_of_rows.Given as goal

abbrev pub invariant-loop-row : goal.invariant-loop-row
invariant-loop-row l = l.builder.ty ≡ number
