use Rattle.std.proofs.Common.{◌≡◌}
use Rattle.pipe_round_tests.proofs.SpecLaws.{number}
use Rattle.pipe_round_tests.proofs.batches.numbers.Given as goal

abbrev pub invariant-loop : goal.invariant-loop
invariant-loop l = l.builder.ty ≡ number
