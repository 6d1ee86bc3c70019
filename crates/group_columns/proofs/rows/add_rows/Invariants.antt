use Rattle.std.proofs.Common.{◌≡◌, ◌+◌, ◌≤◌, length, drop}
use Rattle.group_laws.specs.Columns.{spread}
use Rattle.group_tallies.specs.Kept.{tallies_in, keeping_in}
use Rattle.group_columns.specs.Columns.{with_members, count_in, tests_of, values_of, members_of, trues_in}
use Rattle.group_columns.proofs.rows.add_rows.Given as goal

-- the rows that are left
abbrev pub invariant-loop-row : goal.invariant-loop-row
invariant-loop-row l = record {
  tallies : with_members (keeping_in l.initial.tallies) (tallies_in l.tallies) (drop l.row l.numbers) (spread (drop l.row (tests_of (length l.numbers) l.taken)) (drop l.place (values_of (length l.numbers) l.taken)))
      ≡ with_members (keeping_in l.initial.tallies) (tallies_in l.initial.tallies) l.numbers (members_of (length l.numbers) l.taken);
  keeping : keeping_in l.tallies ≡ keeping_in l.initial.tallies;
  groups : length (tallies_in l.tallies) ≡ length (tallies_in l.initial.tallies);
  counts : count_in (tallies_in l.tallies) ≤ count_in (tallies_in l.initial.tallies) + l.row;
  behind : l.place ≤ l.row;
  values : trues_in (drop l.row (tests_of (length l.numbers) l.taken)) + l.place ≤ length (values_of (length l.numbers) l.taken);
}
