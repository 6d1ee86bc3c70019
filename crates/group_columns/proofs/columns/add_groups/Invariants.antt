use Rattle.std.proofs.Common.{◌≡◌, ◌+◌, length, drop}
use Rattle.group_tallies.specs.Kept.{tallies_in, keeping_in}
use Rattle.group_columns.specs.Columns.{with_tallies, count_in}
use Rattle.group_columns.proofs.columns.add_groups.Given as goal

-- the groups that are left
abbrev pub invariant-loop-from : goal.invariant-loop-from
invariant-loop-from l = record {
  tallies : with_tallies (tallies_in l.tallies) (drop l.from l.numbers) (drop l.from (tallies_in l.later)) ≡ with_tallies (tallies_in l.initial.tallies) l.numbers (tallies_in l.later);
  keeping : keeping_in l.tallies ≡ keeping_in l.initial.tallies;
  groups : length (tallies_in l.tallies) ≡ length (tallies_in l.initial.tallies);
  counts : count_in (tallies_in l.tallies) + count_in (drop l.from (tallies_in l.later)) ≡ count_in (tallies_in l.initial.tallies) + count_in (tallies_in l.later);
}
