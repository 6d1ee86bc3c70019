use Rattle.sub_types.specs.declared.value.Value.TheVariants.{Null}
use Rattle.sub_types.specs.Rows.{picked}
use Rattle.batch.proofs.Made.{Made}
use Rattle.batch.proofs.batch.Batch.gather.Given as goal

abbrev pub invariant-loop-column : goal.invariant-loop-column
invariant-loop-column l = Made (picked Null l.at) l.self.columns.items l.columns.items l.column-index
