use Rattle.std.proofs.Common.{◌≡◌, length}
use Rattle.group_tallies.specs.Kept.{tallies_in, keeping_in}
use Rattle.group_columns.specs.Columns.{padded, count_in}
use Rattle.group_columns.proofs.columns.pad.Given as goal

-- the groups so far
abbrev pub invariant-loop : goal.invariant-loop
invariant-loop l = record {
  tallies : padded l.groups (tallies_in l.tallies) ≡ padded l.groups (tallies_in l.initial.tallies);
  keeping : keeping_in l.tallies ≡ keeping_in l.initial.tallies;
  groups : length (tallies_in l.tallies) ≡ l.counter;
  counts : count_in (tallies_in l.tallies) ≡ count_in (tallies_in l.initial.tallies);
}
