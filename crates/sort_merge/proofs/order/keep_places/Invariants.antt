use Rattle.std.proofs.Common.{◌≡◌, ◌++◌, map, take, drop}
use Rattle.sort_merge.specs.Prefix.{row_of}
use Rattle.sort_merge.proofs.order.keep_places.Given as goal

-- of the rows so far only the places are left
abbrev pub invariant-loop-i : goal.invariant-loop-i
invariant-loop-i l = l.rows.items ≡ map row_of (take l.i l.fn.rows.items) ++ drop l.i l.fn.rows.items
