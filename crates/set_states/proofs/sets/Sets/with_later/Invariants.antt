use Rattle.std.proofs.Common.{◌≡◌, ◌+◌, ◌<◌, ◌++◌, ℕ, List, [], length, drop, get_or}
use Rattle.std.specs.Vec.Iter.{into_iter_items}
use Rattle.plan_denote.specs.Aggregate.{Entry}
use Rattle.set_states.specs.declared.set.SetGroups.{SetGroups}
use Rattle.set_states.specs.States.{IsKnown, AreKnown}
use Rattle.set_states.proofs.sets.Sets.with_later.Given as goal

-- the sets so far, and those that are left
abbrev pub invariant-loop-one : goal.invariant-loop-one
invariant-loop-one l = record {
  left : into_iter_items l.one-iterator ≡ drop l.place l.fn.self.sets.items;
  all : length (into_iter_items l.one-iterator) + l.place ≡ length l.fn.self.sets.items;
  within : length l.fn.self.sets.items ≡ length l.later.sets.items;
  many : length l.all.items ≡ l.place;
  each : (width : ℕ) (sets : List (List ℕ)) (entries more : List Entry) → AreKnown width l.measures sets entries l.fn.self → AreKnown width l.measures sets more l.later
      → (i : ℕ) (one : SetGroups) → i < l.place → one ≡ get_or l.all.items i one → IsKnown l.measures (get_or sets i []) (entries ++ more) one;
}
