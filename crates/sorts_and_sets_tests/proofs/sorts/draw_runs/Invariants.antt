use Rattle.std.proofs.Common.{◌≡◌, ◌∷◌, [], All}
use Rattle.batch.specs.BatchRows.{types_of}
use Rattle.sorts_and_sets_tests.specs.declared.drawn.TheConstants.{NUMBER, BINARY}
use Rattle.sorts_and_sets_tests.proofs.sorts.draw_runs.Given as goal

-- the runs so far
abbrev pub invariant-loop-part : goal.invariant-loop-part
invariant-loop-part l = record {
  next : goal.iterator-loop-part.can_next l.part-iterator;
  ends : goal.iterator-loop-part.is_finite l.part-iterator;
  types : All (λ run. types_of run ≡ NUMBER ∷ BINARY ∷ []) l.runs.items;
}
