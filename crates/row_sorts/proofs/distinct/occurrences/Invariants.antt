use Rattle.std.proofs.Common.{◌≡◌, ◌+◌, ◌≤◌, drop}
use Rattle.plan_denote.specs.Distinct.{occurrences}
use Rattle.row_sorts.proofs.distinct.occurrences.Given as goal

-- those so far, and those that are left
abbrev pub invariant-loop-one : goal.invariant-loop-one
invariant-loop-one l = (l.found ≤ l.one-index) × (l.found + occurrences (drop l.one-index l.rows) l.fn.row ≡ occurrences l.fn.rows l.fn.row)
