use Rattle.std.proofs.Common.{◌≡◌, drop}
use Rattle.std.specs.List.{list_any}
use Rattle.plan_denote.specs.Distinct.{is_in}
use Rattle.row_sorts.proofs.sets.in_some.Given as goal

-- what is left answers as all do
abbrev pub invariant-loop-rows : goal.invariant-loop-rows
invariant-loop-rows l = list_any (λ rows. is_in rows l.fn.row) (drop l.rows-index l.inputs) ≡ list_any (λ rows. is_in rows l.fn.row) l.fn.inputs
