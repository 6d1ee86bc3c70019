use Rattle.std.proofs.Common.{take}
use Rattle.arrow_write.proofs.BodyLaws.{HasColumns}
use Rattle.arrow_write.proofs.encoding.batch_body.Given as goal

abbrev pub invariant-loop-column : goal.invariant-loop-column
invariant-loop-column l = HasColumns (take l.column-index l.batch.columns.items) l.body
