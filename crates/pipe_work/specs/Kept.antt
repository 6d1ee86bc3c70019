-- What is kept of what the steps make of a piece by itself.
use Rattle.std.specs.Prelude.{◌≡◌}
use Rattle.sub_types.specs.Stream.{Stream}
use Rattle.plan_denote.specs.Rows.{Row}
use Rattle.plan_pipes.specs.declared.pipe.Breaker.{Breaker}
use Rattle.pipe_parts.specs.Parts.{IsPart}
pub use Rattle.pipe_parts.specs.Parts.{AreParts, ArePartsOf, HaveParts}
pub use Rattle.pipe_parts.specs.declared.part.Part.{Part}
use Rattle.round_end.specs.declared.outcome.Outcome.{Outcome}
use Rattle.round_end.specs.declared.outcome.Outcome.TheVariants.{Made, Ended, ReadFault}
use Rattle.pipe_work.specs.declared.kept.Kept.{Kept}
use Rattle.pipe_work.specs.declared.passed.Passed.{Passed}
use Rattle.pipe_work.specs.Passed.{IsWorkedTo}
use Rattle.pipe_work.specs.Pipe.{StepsSeen}

-- a part of the piece, with the same marks
abbrev pub IsKept : Breaker → Passed → Kept → Type 0
IsKept breaker passed kept = IsPart breaker passed.piece kept.part × (kept.marks.items ≡ passed.marks.items)

-- the same of an outcome, with the same fault
abbrev pub IsKeptOf : Breaker → Outcome Passed → Outcome Kept → Type 0
IsKeptOf breaker (Made passed) (Made kept) = IsKept breaker passed kept
IsKeptOf breaker (Ended passed fault) (Ended kept same) = IsKept breaker passed kept × (same ≡ fault)
IsKeptOf breaker ReadFault ReadFault = Unit {0}
IsKeptOf breaker _ _ = ⊥

-- what is made of a piece with this stream: what is kept of what the steps give for it
pub record IsMade (pipe : StepsSeen) (input : Stream Row) (made : Outcome Kept) : Type 0 where
  pub passed : Outcome Passed
  pub worked : IsWorkedTo pipe input passed
  pub kept : IsKeptOf pipe.breaker passed made
