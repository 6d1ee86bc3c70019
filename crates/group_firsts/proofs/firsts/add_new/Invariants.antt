use Rattle.std.proofs.Common.{◌≡◌, drop}
use Rattle.group_firsts.specs.Firsts.{with_new}
use Rattle.group_firsts.proofs.firsts.add_new.Given as goal

-- the pairs that are left
abbrev pub invariant-loop-row : goal.invariant-loop-row
invariant-loop-row l = with_new l.groups.items (drop l.row l.places) (drop l.row l.numbers) ≡ with_new l.initial.groups.items l.places l.numbers
