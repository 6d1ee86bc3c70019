use Rattle.std.proofs.Common.{◌≡◌, ◌+◌, drop, length}
use Rattle.set_rels.specs.Inputs.{rows_in}
use Rattle.set_rels.proofs.pieces.rows_to.Given as goal

-- the rows so far, and those that are left
abbrev pub invariant-loop-piece : goal.invariant-loop-piece
invariant-loop-piece l = l.end + length (rows_in (drop l.piece-index l.pieces)) ≡ l.from + length (rows_in l.fn.pieces)
