use Rattle.std.proofs.Common.{◌≡◌, ◌≤◌, [], Some, length, map, drop}
use Rattle.group_tallies.specs.Kept.{tallies_in, keeping_in}
use Rattle.group_columns.specs.Columns.{padded, with_members, count_in}
use Rattle.group_firsts.specs.Firsts.{first_in}
use Rattle.group_firsts.proofs.firsts.Firsts.tallies.Given as goal

-- the pairs that are left
abbrev pub invariant-loop-from : goal.invariant-loop-from
invariant-loop-from l = record {
  tallies : with_members l.fn.keeping (tallies_in l.tallies) (drop l.from l.self.groups.items) (map (λ pair. Some (first_in pair)) (drop l.from l.self.pairs.rows))
      ≡ with_members l.fn.keeping (padded l.groups []) l.self.groups.items (map (λ pair. Some (first_in pair)) l.self.pairs.rows);
  keeping : keeping_in l.tallies ≡ l.fn.keeping;
  groups : length (tallies_in l.tallies) ≡ l.groups;
  counts : count_in (tallies_in l.tallies) ≤ l.from;
}
