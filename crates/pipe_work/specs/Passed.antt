-- What the steps make of a piece by itself.
use Rattle.std.specs.Prelude.{◌≡◌, [], ◌∷◌, Some, None}
use Rattle.sub_types.specs.Stream.{Stream}
use Rattle.plan_denote.specs.Rows.{Row}
use Rattle.batch.specs.BatchRows.{stream_of_piece}
use Rattle.plan_pipes.specs.Run.{through}
use Rattle.plan_pipes.specs.Pieces.{Agree, marks_through, piece_through}
use Rattle.pipe_types.specs.Exact.{exact_steps}
use Rattle.pipe_steps.specs.Behind.{IsStored}
use Rattle.pipe_steps.specs.Marked.{HaveMarks}
use Rattle.pipe_steps.specs.Tables.{joins_of, tables_seen}
use Rattle.round_end.specs.declared.outcome.Outcome.{Outcome}
use Rattle.round_end.specs.declared.outcome.Outcome.TheVariants.{Made, Ended, ReadFault}
use Rattle.pipe_work.specs.declared.passed.Passed.{Passed}
use Rattle.pipe_work.specs.Pipe.{StepsSeen}

-- the piece is what the steps give for a piece with this stream, and where it has no fault, the marks are those of the right rows that it matches, where they are used
pub record IsPassed (pipe : StepsSeen) (input : Stream Row) (passed : Passed) : Type 0 where
  pub stream : stream_of_piece passed.piece ≡ piece_through (tables_seen pipe.tables) pipe.steps input
  pub stored : IsStored (through exact_steps (joins_of pipe.tables) pipe.steps pipe.types) passed.piece
  pub have : HaveMarks (tables_seen pipe.tables) pipe.steps passed.marks.items
  pub marked : passed.piece.end ≡ None → Agree (tables_seen pipe.tables) pipe.steps (marks_through (tables_seen pipe.tables) pipe.steps (input ∷ [])) passed.marks.items

-- the same as an outcome, by its end
abbrev pub IsWorkedTo : StepsSeen → Stream Row → Outcome Passed → Type 0
IsWorkedTo pipe input (Made passed) = IsPassed pipe input passed × (passed.piece.end ≡ None)
IsWorkedTo pipe input (Ended passed fault) = IsPassed pipe input passed × (passed.piece.end ≡ Some fault)
IsWorkedTo pipe input ReadFault = ⊥
