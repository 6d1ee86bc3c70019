use Rattle.std.proofs.Common.{◌≡◌, ◌+◌, ◌<◌, ◌++◌, ℕ, List, true, length, drop, get_or}
use Rattle.std.specs.Vec.Iter.{into_iter_items}
use Rattle.plan_typed.specs.declared.rel.SetMeasure.{SetMeasure}
use Rattle.plan_denote.specs.Computed.{Row}
use Rattle.plan_denote.specs.Aggregate.{Entry}
use Rattle.group_numbers.specs.Keys.{AreAt, with_keys}
use Rattle.group_columns.specs.Columns.{keys_of}
use Rattle.group_firsts.specs.declared.firsts.Firsts.{Firsts}
use Rattle.group_firsts.specs.Firsts.{AreFirsts}
use Rattle.set_states.specs.States.{AreKept, ArePairs}
use Rattle.set_states.proofs.firsts.firsts_with_rows.Given as goal

-- the measures so far, and those that are left
abbrev pub invariant-loop-one : goal.invariant-loop-one
invariant-loop-one l = record {
  left : into_iter_items l.one-iterator ≡ drop l.place l.fn.firsts.items;
  all : length (into_iter_items l.one-iterator) + l.place ≡ length l.fn.firsts.items;
  within : length l.fn.firsts.items ≡ length l.measures;
  many : length l.more.items ≡ l.place;
  each : (keys : List Row) (entries later : List Entry) → AreKept l.measures keys entries l.fn.firsts.items → ArePairs l.measures l.first l.columns l.batch later → AreAt (with_keys keys (keys_of later)) l.numbers (keys_of later)
      → (i : ℕ) (one : Firsts) → i < l.place → one ≡ get_or l.more.items i one → (measure : SetMeasure) → measure ≡ get_or l.measures i measure → measure.distinct ≡ true → AreFirsts (with_keys keys (keys_of later)) (entries ++ later) i one;
}
