use Rattle.arrow_write.proofs.CutLaws.{CutColumns, cut_at}
use Rattle.arrow_write.proofs.cut.batch_of_parts.Given as goal

abbrev pub invariant-loop-index : goal.invariant-loop-index
invariant-loop-index l = CutColumns l.types (cut_at l.batches l.parts) l.columns.items l.index
