-- A batch with a row.
use Rattle.std.proofs.Common.{◌<◌, not, ap, sym, subst}
use Rattle.batch.specs.declared.batch.Batch.{Batch}
use Rattle.sub_query.proofs.RowLaws.{some_rows}
use Rattle.sub_query.proofs.worth_of.has_row.Goals as goal

pub returns-then-batch-gt0 : goal.returns-then-batch-gt0
returns-then-batch-gt0 c =
    let some = subst (λ (batch : Batch). 0 < batch.rows) c.batch-item.is c.if-batch-gt0.true in
    sym (ap not (some_rows c.args.batches.now c.loop-batch.batch-index c.batch-item.result c.loop-batch-test.true some))
