use Rattle.std.proofs.Common.{◌≡◌, drop}
use Rattle.plan_denote.specs.Sets.{fewest}
use Rattle.row_sorts.proofs.sets.fewest.Given as goal

-- the least so far, and of what is left
abbrev pub invariant-loop-rows : goal.invariant-loop-rows
invariant-loop-rows l = fewest l.least (drop l.rows-index l.inputs) l.fn.row ≡ fewest l.fn.many l.fn.inputs l.fn.row
