use Rattle.std.proofs.Common.{◌≡◌, ◌++◌}
use Rattle.std.specs.List.{flat_map}
use Rattle.row_sorts.proofs.sets.all_rows.Given as goal

-- the rows so far, and those that are left
abbrev pub invariant-loop-rows : goal.invariant-loop-rows
invariant-loop-rows l = l.all.items ++ flat_map (λ one. one) l.rows-iterator.rest.items ≡ flat_map (λ one. one) l.fn.inputs
