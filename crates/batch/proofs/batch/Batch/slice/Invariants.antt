use Rattle.std.specs.List.{slice_range}
use Rattle.batch.proofs.Made.{Made}
use Rattle.batch.proofs.batch.Batch.slice.Given as goal

abbrev pub invariant-loop-column : goal.invariant-loop-column
invariant-loop-column l = Made (λ column. slice_range column l.from l.to) l.self.columns.items l.columns.items l.column-index
