use Rattle.batch.proofs.JoinLaws.{JoinedColumns}
use Rattle.batch.proofs.join.join_batches.Given as goal

abbrev pub invariant-loop-index : goal.invariant-loop-index
invariant-loop-index l = JoinedColumns l.types l.parts l.columns.items l.index
