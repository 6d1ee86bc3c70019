-- The builder keeps its type.
use Rattle.std.proofs.Common.{◌≡◌}
use Rattle.steps_tests.specs.Typed.{number}
use Rattle.steps_tests.proofs.batches.push_random_numbers.Given as goal

abbrev pub invariant-loop : goal.invariant-loop
invariant-loop l = l.builder.ty ≡ number
