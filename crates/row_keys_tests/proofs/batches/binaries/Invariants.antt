-- The builder keeps its type.
use Rattle.std.proofs.Common.{◌≡◌}
use Rattle.row_keys_tests.specs.declared.batches.TheConstants.{BINARY}
use Rattle.row_keys_tests.proofs.batches.binaries.Given as goal

abbrev pub invariant-loop-bytes : goal.invariant-loop-bytes
invariant-loop-bytes l = l.builder.ty ≡ BINARY
