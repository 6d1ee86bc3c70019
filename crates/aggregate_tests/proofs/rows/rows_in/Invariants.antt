use Rattle.std.proofs.Common.{All}
use Rattle.sub_types.specs.Value.{Fits}
use Rattle.aggregate_tests.specs.Typed.{numbers}
use Rattle.aggregate_tests.proofs.rows.rows_in.Given as goal

abbrev pub invariant-loop-pair : goal.invariant-loop-pair
invariant-loop-pair l = All (Fits numbers) l.rows
