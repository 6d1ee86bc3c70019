use Rattle.std.proofs.Common.{◌≡◌, ◌++◌}
use Rattle.plan_denote.specs.Tally.{not_null}
use Rattle.row_tallies.proofs.tally.not_null.Given as goal

-- those so far, and those of what is left
abbrev pub invariant-loop-value : goal.invariant-loop-value
invariant-loop-value l = l.kept ++ not_null l.value-iterator.rest.items ≡ not_null l.fn.values
