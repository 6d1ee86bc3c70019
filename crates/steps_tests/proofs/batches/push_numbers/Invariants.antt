-- The builder keeps its type.
use Rattle.std.proofs.Common.{◌≡◌}
use Rattle.steps_tests.specs.Typed.{number}
use Rattle.steps_tests.proofs.batches.push_numbers.Given as goal

abbrev pub invariant-loop-value : goal.invariant-loop-value
invariant-loop-value l = l.builder.ty ≡ number
