use Rattle.std.proofs.Common.{◌≡◌, ◌+◌, ◌≤◌, ◌++◌, List, length, map, take, drop, All}
use Rattle.std.specs.Vec.Iter.{into_iter_items}
use Rattle.plan_denote.specs.Computed.{Row}
use Rattle.plan_denote.specs.Aggregate.{MAX_INPUT, Entry}
use Rattle.group_numbers.specs.Keys.{IsOnce}
use Rattle.group_tallies.specs.Kept.{tallies_in, keeping_in}
use Rattle.group_columns.specs.Columns.{count_in}
use Rattle.group_states.specs.States.{kept_in, columns_kept}
use Rattle.set_states.specs.States.{keeping, AreKept}
use Rattle.set_rows.specs.Rows.{columns_final}
use Rattle.set_rows.proofs.columns.final_columns.Given as goal

-- the columns so far, and those that are left
abbrev pub invariant-loop-tallies : goal.invariant-loop-tallies
invariant-loop-tallies l = record {
  left : into_iter_items l.tallies-iterator ≡ drop l.place l.fn.columns.items;
  all : length (into_iter_items l.tallies-iterator) + l.place ≡ length l.fn.columns.items;
  kinds : map keeping_in l.more.items ≡ map keeping (take l.place l.measures);
  sized : All (λ tallies. length (tallies_in tallies) ≡ l.groups) l.more.items;
  few : All (λ tallies. count_in (tallies_in tallies) ≤ MAX_INPUT) l.more.items;
  known : (keys : List Row) (entries : List Entry) → map kept_in l.fn.columns.items ≡ columns_kept 0 (map keeping l.measures) entries keys → AreKept l.measures keys entries l.firsts → IsOnce keys → length keys ≡ l.groups
      → columns_final 0 l.measures entries keys ≡ map kept_in l.more.items ++ columns_final l.place (drop l.place l.measures) entries keys;
}
