use Rattle.std.proofs.Common.{◌≡◌, ◌+◌, ◌*◌, ◌^◌, ◌≤◌, drop}
use Rattle.plan_denote.specs.Sets.{occurrences_in}
use Rattle.row_sorts.proofs.sets.occurrences_in.Given as goal

-- those so far, and those that are left
abbrev pub invariant-loop-rows : goal.invariant-loop-rows
invariant-loop-rows l = (l.found ≤ l.rows-index * 2 ^ 64) × (l.found + occurrences_in (drop l.rows-index l.inputs) l.fn.row ≡ occurrences_in l.fn.inputs l.fn.row)
