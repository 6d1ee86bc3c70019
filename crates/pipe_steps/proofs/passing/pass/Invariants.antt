use Rattle.pipe_steps.specs.Through.{IsThrough}
use Rattle.pipe_steps.proofs.passing.pass.Given as goal

-- the piece is behind the steps so far
abbrev pub invariant-loop-at : goal.invariant-loop-at
invariant-loop-at l = IsThrough l.fn.tables l.fn.steps l.fn.marks l.fn.piece l.at l.marks l.piece
