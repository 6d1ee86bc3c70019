use Rattle.std.proofs.Common.{All}
use Rattle.steps_tests.specs.Typed.{number, IsOver}
use Rattle.steps_tests.proofs.worked.exprs_of.Given as goal

-- the expressions so far
abbrev pub invariant-loop-word : goal.invariant-loop-word
invariant-loop-word l = record {
  next : goal.iterator-loop-word.can_next l.word-iterator;
  ends : goal.iterator-loop-word.is_finite l.word-iterator;
  typed : All (IsOver number) l.exprs.items;
}
