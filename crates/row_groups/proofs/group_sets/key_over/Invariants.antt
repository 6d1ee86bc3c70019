use Rattle.std.proofs.Common.{◌≡◌, ◌++◌, ◌-◌, length, map}
use Rattle.std.specs.List.{range_with_len}
use Rattle.plan_denote.specs.GroupSets.{key_over}
use Rattle.row_groups.specs.Measured.{key_value}
use Rattle.row_groups.proofs.group_sets.key_over.Given as goal

-- the values so far, and those at the places that are left
abbrev pub invariant-loop-place : goal.invariant-loop-place
invariant-loop-place l = l.own ++ map (key_value l.fn.set l.fn.key) (range_with_len l.place (length l.fn.key - l.place)) ≡ key_over l.fn.set l.fn.key
