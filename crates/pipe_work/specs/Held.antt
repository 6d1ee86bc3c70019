-- What is made of a piece in memory.
use Rattle.std.specs.Prelude.{Option, Some, None}
use Rattle.std.specs.Borrow.{Bor}
use Rattle.batch.specs.BatchRows.{stream_of_piece}
use Rattle.round_end.specs.declared.outcome.Outcome.{Outcome}
use Rattle.pipe_work.specs.declared.held.HeldPiece.{HeldPiece}
use Rattle.pipe_work.specs.declared.kept.Kept.{Kept}
use Rattle.pipe_work.specs.Kept.{IsMade}

-- what is kept of what its steps give for it; where there is none, anything
abbrev pub IsMadeOf : Option (Bor HeldPiece) → Outcome Kept → Type 0
IsMadeOf None made = Unit {0}
IsMadeOf (Some held) made = IsMade held.now.pipe.now (stream_of_piece held.now.piece) made
