use Rattle.std.proofs.Common.{◌≡◌, ◌++◌}
use Rattle.std.specs.Vec.Iter.{into_iter_items}
use Rattle.check_sources.proofs.rows.appended.Given as goal

-- with what is left they are all
abbrev pub invariant-loop-row : goal.invariant-loop-row
invariant-loop-row l = l.rows ++ into_iter_items l.row-iterator ≡ l.fn.first ++ l.fn.second
