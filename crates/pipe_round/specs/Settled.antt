-- What was made of the pieces of an input, in order.
use Rattle.std.specs.Prelude.{◌≡◌, ◌⊎◌, List, [], ◌∷◌, Option, None, IsSome}
use Rattle.sub_types.specs.declared.fault.Fault.{Fault}
use Rattle.sub_types.specs.Stream.{Stream}
use Rattle.plan_denote.specs.Rows.{Row}
use Rattle.plan_pipes.specs.declared.pipe.Breaker.{Breaker}
use Rattle.pipe_steps.specs.Marked.{HaveMarks}
use Rattle.pipe_steps.specs.Tables.{tables_seen}
use Rattle.round_end.specs.declared.outcome.Outcome.{Outcome}
use Rattle.round_end.specs.declared.outcome.Outcome.TheVariants.{Made, Ended, ReadFault}
use Rattle.pipe_work.specs.declared.kept.Kept.{Kept}
use Rattle.pipe_work.specs.declared.passed.Passed.{Passed}
use Rattle.pipe_work.specs.Kept.{IsKept, IsMade}
use Rattle.pipe_work.specs.Passed.{IsPassed}
use Rattle.pipe_work.specs.Pipe.{StepsSeen}

-- what was made of a piece has marks for each step
abbrev pub HasMarks : StepsSeen → Outcome Kept → Type 0
HasMarks pipe (Made kept) = HaveMarks (tables_seen pipe.tables) pipe.steps kept.marks.items
HasMarks pipe (Ended kept fault) = HaveMarks (tables_seen pipe.tables) pipe.steps kept.marks.items
HasMarks pipe ReadFault = Unit {0}

-- what was made of a piece with this stream, unless its read failed
abbrev pub IsSettled : StepsSeen → Stream Row → Outcome Kept → Type 0
IsSettled pipe piece (Made kept) = IsMade pipe piece (Made kept)
IsSettled pipe piece (Ended kept fault) = IsMade pipe piece (Ended kept fault)
IsSettled pipe piece ReadFault = Unit {0}

-- of each piece in order
abbrev pub AreSettled : StepsSeen → List (Stream Row) → List (Outcome Kept) → Type 0
AreSettled pipe [] [] = Unit {0}
AreSettled pipe (piece ∷ input) (out ∷ outs) = IsSettled pipe piece out × AreSettled pipe input outs
AreSettled pipe _ _ = ⊥

-- what the steps gave for all pieces where there is no fault, or else for those up to the first that has one
abbrev pub ArePut : StepsSeen → List (Stream Row) → List Passed → Option Fault → Type 0
ArePut pipe [] [] None = Unit {0}
ArePut pipe (piece ∷ input) (passed ∷ made) end =
    IsPassed pipe piece passed × (((passed.piece.end ≡ None) × ArePut pipe input made end) ⊎ (IsSome passed.piece.end × (made ≡ []) × IsSome end))
ArePut pipe _ _ _ = ⊥

-- what is kept of each, in order
abbrev pub AreKept : Breaker → List Passed → List Kept → Type 0
AreKept breaker [] [] = Unit {0}
AreKept breaker (passed ∷ made) (kept ∷ rest) = IsKept breaker passed kept × AreKept breaker made rest
AreKept breaker _ _ = ⊥

-- what is kept of what the steps gave, of the pieces that count
pub record HavePut (pipe : StepsSeen) (input : List (Stream Row)) (kept : List Kept) (end : Option Fault) : Type 0 where
  pub made : List Passed
  pub put : ArePut pipe input made end
  pub are_kept : AreKept pipe.breaker made kept
