use Rattle.std.proofs.Common.{◌≡◌, drop}
use Rattle.std.specs.List.{list_any}
use Rattle.plan_denote.specs.Order.{is_same}
use Rattle.row_sorts.proofs.distinct.is_among.Given as goal

-- what is left answers as all do
abbrev pub invariant-loop-one : goal.invariant-loop-one
invariant-loop-one l = list_any (is_same l.fn.value) (drop l.one-index l.values) ≡ list_any (is_same l.fn.value) l.fn.values
