use Rattle.std.proofs.Common.{◌≡◌, ◌+◌, ◌≤◌, ◌^◌, ◌++◌, ℕ, length, map, All, drop}
use Rattle.std.specs.Vec.Iter.{into_iter_items}
use Rattle.group_laws.specs.Columns.{zipped}
use Rattle.group_tallies.specs.Kept.{tallies_in}
use Rattle.group_columns.specs.Columns.{count_in}
use Rattle.group_states.specs.States.{kept_in, with_rows}
use Rattle.group_states.proofs.columns.columns_with_rows.Given as goal

-- the columns so far, and those that are left
abbrev pub invariant-loop-tallies : goal.invariant-loop-tallies
invariant-loop-tallies l = record {
  kept : zipped (with_rows l.groups l.numbers (length l.numbers)) (map kept_in l.fn.columns.items) l.taken
      ≡ map kept_in l.more.items ++ zipped (with_rows l.groups l.numbers (length l.numbers)) (map kept_in (into_iter_items l.tallies-iterator)) (drop l.place l.taken);
  all : length (into_iter_items l.tallies-iterator) + l.place ≡ length l.taken;
  left : All (λ tallies. length (tallies_in tallies) ≤ l.groups) (into_iter_items l.tallies-iterator);
  room : All (λ tallies. count_in (tallies_in tallies) + length l.numbers ≤ 2 ^ 62) (into_iter_items l.tallies-iterator);
  groups : All (λ tallies. length (tallies_in tallies) ≡ l.groups) l.more.items;
  few : (rows : ℕ) → All (λ tallies. count_in (tallies_in tallies) ≤ rows) l.fn.columns.items → All (λ tallies. count_in (tallies_in tallies) ≤ rows) (into_iter_items l.tallies-iterator);
  counts : (rows : ℕ) → All (λ tallies. count_in (tallies_in tallies) ≤ rows) l.fn.columns.items → All (λ tallies. count_in (tallies_in tallies) ≤ rows + length l.numbers) l.more.items;
}
