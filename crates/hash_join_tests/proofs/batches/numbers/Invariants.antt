use Rattle.std.proofs.Common.{◌≡◌}
use Rattle.hash_join_tests.specs.Typed.{number}
use Rattle.hash_join_tests.proofs.batches.numbers.Given as goal

abbrev pub invariant-loop : goal.invariant-loop
invariant-loop l = l.builder.ty ≡ number
