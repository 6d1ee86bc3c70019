use Rattle.std.proofs.Common.{◌≡◌, ◌+◌, ◌<◌, ◌++◌, ℕ, List, true, length, drop, get_or}
use Rattle.std.specs.Vec.Iter.{into_iter_items}
use Rattle.plan_typed.specs.declared.rel.SetMeasure.{SetMeasure}
use Rattle.plan_denote.specs.Computed.{Row}
use Rattle.plan_denote.specs.Aggregate.{Entry}
use Rattle.group_numbers.specs.Keys.{AreAt, with_keys}
use Rattle.group_firsts.specs.declared.firsts.Firsts.{Firsts}
use Rattle.group_firsts.specs.Firsts.{AreFirsts}
use Rattle.set_states.specs.States.{AreKept}
use Rattle.set_states.proofs.firsts.firsts_with_later.Given as goal

-- the measures so far, and those that are left
abbrev pub invariant-loop-one : goal.invariant-loop-one
invariant-loop-one l = record {
  left : into_iter_items l.one-iterator ≡ drop l.place l.fn.firsts.items;
  all : length (into_iter_items l.one-iterator) + l.place ≡ length l.fn.firsts.items;
  within : length l.fn.firsts.items ≡ length l.measures;
  there : length l.fn.firsts.items ≡ length l.later;
  many : length l.both.items ≡ l.place;
  each : (keys others : List Row) (entries more : List Entry) → AreKept l.measures keys entries l.fn.firsts.items → AreKept l.measures others more l.later → AreAt (with_keys keys others) l.numbers others
      → (i : ℕ) (one : Firsts) → i < l.place → one ≡ get_or l.both.items i one → (measure : SetMeasure) → measure ≡ get_or l.measures i measure → measure.distinct ≡ true → AreFirsts (with_keys keys others) (entries ++ more) i one;
}
