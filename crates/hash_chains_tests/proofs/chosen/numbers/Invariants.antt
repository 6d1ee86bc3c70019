use Rattle.std.proofs.Common.{◌≡◌}
use Rattle.hash_chains_tests.proofs.ColumnLaws.{number}
use Rattle.hash_chains_tests.proofs.chosen.numbers.Given as goal

abbrev pub invariant-loop-i : goal.invariant-loop-i
invariant-loop-i l = l.builder.ty ≡ number
