use Rattle.std.proofs.Common.{◌≡◌, ◌++◌}
use Rattle.plan_denote.specs.Order.{is_same}
use Rattle.plan_denote.specs.Distinct.{distinct}
use Rattle.row_sorts.proofs.DistinctLaws.{news}
use Rattle.row_sorts.proofs.distinct.distinct_values.Given as goal

-- what is found so far, and what is new of what is left
abbrev pub invariant-loop-value : goal.invariant-loop-value
invariant-loop-value l = l.found ++ news is_same l.found l.value-iterator.rest.items ≡ distinct is_same l.fn.values
