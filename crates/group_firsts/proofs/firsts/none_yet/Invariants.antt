use Rattle.std.proofs.Common.{◌≡◌, [], length}
use Rattle.group_tallies.specs.Kept.{tallies_in, keeping_in}
use Rattle.group_columns.specs.Columns.{padded}
use Rattle.group_firsts.proofs.firsts.none_yet.Given as goal

-- the groups so far
abbrev pub invariant-loop : goal.invariant-loop
invariant-loop l = record {
  tallies : padded l.groups (tallies_in l.tallies) ≡ padded l.groups [];
  keeping : keeping_in l.tallies ≡ l.fn.keeping;
  groups : length (tallies_in l.tallies) ≡ l.counter;
}
