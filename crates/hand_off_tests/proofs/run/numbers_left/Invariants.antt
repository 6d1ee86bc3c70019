use Rattle.std.proofs.Common.{◌≡◌, ℕ, ◌+◌}
use Rattle.run_core.specs.Counts.{times}
use Rattle.hand_off_tests.specs.Crew.{numbers_of}
use Rattle.hand_off_tests.proofs.run.numbers_left.Given as goal

abbrev pub invariant-loop : goal.invariant-loop
invariant-loop g l = record {
  runs : (goal.iterator-loop g).can_next l.iterator' × (goal.iterator-loop g).is_finite l.iterator';
  offered : l.rest.offered ≡ l.initial.rest.offered;
  given : (x : ℕ) → times x (numbers_of l.rest.taken) ≡ times x (numbers_of l.initial.rest.taken) + times x l.left.items;
}
