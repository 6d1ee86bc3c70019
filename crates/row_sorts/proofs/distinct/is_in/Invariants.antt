use Rattle.std.proofs.Common.{◌≡◌, drop}
use Rattle.plan_denote.specs.Distinct.{is_in}
use Rattle.row_sorts.proofs.distinct.is_in.Given as goal

-- what is left answers as all do
abbrev pub invariant-loop-one : goal.invariant-loop-one
invariant-loop-one l = is_in (drop l.one-index l.rows) l.fn.row ≡ is_in l.fn.rows l.fn.row
