-- A row has no value beyond the batch.
use Rattle.std.proofs.Common.{arith}
use Rattle.eval_row.proofs.RowLaws.{no_row, no_column}
use Rattle.eval_row.proofs.row.BatchRowRowValues.value.Goals as goal
use Rattle.eval_row.proofs.row.BatchRowRowValues.value.Goals.{else-self-via-then-self+else-column-len, else-self-via-else-self}

pub returns-else-self : goal.returns-else-self
returns-else-self c =
    let batch = c.args.self.now.batch.now in
    elim c.else-self.branch [
      | else-self-via-then-self+else-column-len w ↦ no_column batch c.args.self.now.row c.args.index (omega (arith, w.if-self)) (omega (arith, w.if-column-len, w.len.ensures))
      | else-self-via-else-self w ↦ no_row batch c.args.self.now.row c.args.index (omega (arith, w.if-self))
    ]
