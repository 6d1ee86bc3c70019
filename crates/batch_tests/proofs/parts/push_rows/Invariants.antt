-- The builder keeps its kind.
use Rattle.std.proofs.Common.{◌≡◌}
use Rattle.batch_tests.proofs.parts.push_rows.Given as goal

abbrev pub invariant-loop-row : goal.invariant-loop-row
invariant-loop-row l = l.builder.ty.kind ≡ l.kind
