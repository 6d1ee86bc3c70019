use Rattle.std.proofs.Common.{◌≡◌}
use Rattle.sub_types.specs.declared.kind.Kind.TheVariants as kinds
use Rattle.table_rows_tests.proofs.tests.batches.binaries.Given as goal

abbrev pub invariant-loop-size : goal.invariant-loop-size
invariant-loop-size l = l.builder.ty.kind ≡ kinds.Binary
