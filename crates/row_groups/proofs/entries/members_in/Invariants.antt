use Rattle.std.proofs.Common.{◌≡◌, ◌++◌, drop}
use Rattle.plan_denote.specs.Aggregate.{members_in}
use Rattle.row_groups.proofs.entries.members_in.Given as goal

-- those so far, and those of the entries that are left
abbrev pub invariant-loop-entry : goal.invariant-loop-entry
invariant-loop-entry l = l.members ++ members_in (drop l.entry-index l.entries) l.fn.key l.fn.place ≡ members_in l.fn.entries l.fn.key l.fn.place
