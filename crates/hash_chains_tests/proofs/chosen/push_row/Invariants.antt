use Rattle.std.proofs.Common.{◌≡◌}
use Rattle.hash_chains_tests.proofs.chosen.push_row.Given as goal

abbrev pub invariant-loop-j : goal.invariant-loop-j
invariant-loop-j l = l.builder.ty ≡ l.initial.builder.ty
