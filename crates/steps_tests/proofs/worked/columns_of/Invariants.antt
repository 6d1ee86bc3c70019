use Rattle.std.proofs.Common.{◌<◌, All}
use Rattle.steps_tests.proofs.worked.columns_of.Given as goal

-- the columns so far
abbrev pub invariant-loop-word : goal.invariant-loop-word
invariant-loop-word l = record {
  next : goal.iterator-loop-word.can_next l.word-iterator;
  ends : goal.iterator-loop-word.is_finite l.word-iterator;
  below : All (λ column. column < 2) l.columns.items;
}
