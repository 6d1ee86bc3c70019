use Rattle.std.proofs.Common.{◌≡◌, length}
use Rattle.plan_denote.specs.Distinct.{is_same_row}
use Rattle.row_sorts.proofs.distinct.is_same_row.Given as goal

-- what is left is as long, and answers as all does
abbrev pub invariant-loop-one : goal.invariant-loop-one
invariant-loop-one l =
    (length l.one-iterator.a.rest.now ≡ length l.one-iterator.b.rest.now)
    × (is_same_row l.one-iterator.a.rest.now l.one-iterator.b.rest.now ≡ is_same_row l.fn.a l.fn.b)
