use Rattle.std.proofs.Common.{◌≡◌, ◌<◌, ℕ, List, [], length, get_or}
use Rattle.set_states.specs.declared.set.SetGroups.{SetGroups}
use Rattle.set_states.specs.States.{IsKnown}
use Rattle.set_states.proofs.sets.Sets.new.Given as goal

-- the sets so far
abbrev pub invariant-loop : goal.invariant-loop
invariant-loop l = record {
  many : length l.all.items ≡ l.counter;
  each : (i : ℕ) (one : SetGroups) → i < l.counter → one ≡ get_or l.all.items i one → (set : List ℕ) → IsKnown l.measures set [] one;
}
