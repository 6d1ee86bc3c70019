use Rattle.std.proofs.Common.{◌≡◌, ◌∷◌, [], All}
use Rattle.std.specs.Vec.Iter.{into_iter_items}
use Rattle.batch.specs.declared.batch.Batch.{Batch}
use Rattle.batch.specs.BatchRows.{types_of}
use Rattle.worked_sorts_tests.specs.declared.columns.TheConstants.{NUMBER, BINARY}
use Rattle.worked_sorts_tests.proofs.sorts.merged.Given as goal

-- the batches that are left, and the runs so far
abbrev pub invariant-loop-batch : goal.invariant-loop-batch
invariant-loop-batch l = record {
  left : All (λ (batch : Batch). types_of batch ≡ NUMBER ∷ BINARY ∷ []) (into_iter_items l.batch-iterator);
  runs : All (λ (run : Batch). types_of run ≡ NUMBER ∷ BINARY ∷ []) l.runs.items;
}
