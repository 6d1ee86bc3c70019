use Rattle.std.proofs.Common.{◌≡◌, ◌+◌, ◌≤◌, ◌^◌, ◌++◌, ℕ, length, map, All, drop}
use Rattle.std.specs.Vec.Iter.{into_iter_items}
use Rattle.group_laws.specs.Columns.{zipped}
use Rattle.group_tallies.specs.Kept.{tallies_in, keeping_in}
use Rattle.group_columns.specs.Columns.{count_in}
use Rattle.group_states.specs.States.{kept_in, with_groups}
use Rattle.group_states.proofs.columns.columns_with_groups.Given as goal

-- the columns so far, and those that are left
abbrev pub invariant-loop-tallies : goal.invariant-loop-tallies
invariant-loop-tallies l = record {
  kept : zipped (with_groups l.groups l.numbers) (map kept_in l.fn.columns.items) (map kept_in l.later)
      ≡ map kept_in l.more.items ++ zipped (with_groups l.groups l.numbers) (map kept_in (into_iter_items l.tallies-iterator)) (drop l.place (map kept_in l.later));
  all : length (into_iter_items l.tallies-iterator) + l.place ≡ length l.later;
  keeping : map keeping_in (into_iter_items l.tallies-iterator) ≡ drop l.place (map keeping_in l.later);
  left : All (λ tallies. length (tallies_in tallies) ≤ l.groups) (into_iter_items l.tallies-iterator);
  room : All (λ tallies. count_in (tallies_in tallies) ≤ 2 ^ 61) (into_iter_items l.tallies-iterator);
  groups : All (λ tallies. length (tallies_in tallies) ≡ l.groups) l.more.items;
  few : (rows : ℕ) → All (λ tallies. count_in (tallies_in tallies) ≤ rows) l.fn.columns.items → All (λ tallies. count_in (tallies_in tallies) ≤ rows) (into_iter_items l.tallies-iterator);
  counts : (rows others : ℕ) → All (λ tallies. count_in (tallies_in tallies) ≤ rows) l.fn.columns.items → All (λ tallies. count_in (tallies_in tallies) ≤ others) l.later → All (λ tallies. count_in (tallies_in tallies) ≤ rows + others) l.more.items;
}
