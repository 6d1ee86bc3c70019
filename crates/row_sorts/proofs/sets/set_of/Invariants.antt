use Rattle.std.proofs.Common.{◌≡◌, ◌++◌, length, map}
use Rattle.std.specs.List.{filter, range_with_len}
use Rattle.plan_denote.specs.Sets.{row_at}
use Rattle.row_sorts.specs.SetPlaces.{takes}
use Rattle.row_sorts.proofs.SetLaws.{at_left}
use Rattle.row_sorts.proofs.sets.set_of.Given as goal

-- the rows so far, and those at the places that are left
abbrev pub invariant-loop-place : goal.invariant-loop-place
invariant-loop-place l =
    l.rows ++ at_left (row_at l.fn.first) (takes l.op l.fn.first l.fn.others) l.place (length l.fn.first)
    ≡ map (row_at l.fn.first) (filter (takes l.fn.op l.fn.first l.fn.others) (range_with_len 0 (length l.fn.first)))
