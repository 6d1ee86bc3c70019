use Rattle.std.proofs.Common.{◌≡◌, ◌∷◌, [], All}
use Rattle.batch.specs.declared.batch.Batch.{Batch}
use Rattle.batch.specs.BatchRows.{types_of}
use Rattle.worked_sorts_tests.specs.declared.columns.TheConstants.{NUMBER, BINARY}
use Rattle.worked_sorts_tests.proofs.sorts.batches_of.Given as goal

-- the batches so far
abbrev pub invariant-loop-part : goal.invariant-loop-part
invariant-loop-part l = record {
  next : goal.iterator-loop-part.can_next l.part-iterator;
  ends : goal.iterator-loop-part.is_finite l.part-iterator;
  types : All (λ (batch : Batch). types_of batch ≡ NUMBER ∷ BINARY ∷ []) l.batches.items;
}
