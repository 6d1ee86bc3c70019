-- What is kept of pieces, one after the other.
use Rattle.std.proofs.Common.{◌≡◌, ◌∙◌, List, [], ◌∷◌, ◌++◌, None, Some, length, append_assoc, refl, sym, ap, subst, arith}
use Rattle.std.proofs.lemmas.List.{append-nil}
use Rattle.sub_types.specs.declared.fault.Fault.{Fault}
use Rattle.sub_types.specs.declared.kind.Ty.{Ty}
use Rattle.sub_types.specs.Stream.{Stream}
use Rattle.plan_denote.specs.Rows.{Row}
use Rattle.batch.specs.declared.batch.Piece.{Piece}
use Rattle.batch.specs.BatchRows.{types_of}
use Rattle.plan_pipes.specs.declared.pipe.Breaker.{Breaker}
use Rattle.plan_pipes.specs.Run.{through}
use Rattle.pipe_types.specs.Exact.{exact_steps}
use Rattle.pipe_types.specs.Over.{IsBreakerOver}
use Rattle.pipe_steps.specs.Behind.{IsStored}
use Rattle.pipe_steps.specs.Tables.{joins_of}
use Rattle.pipe_parts.specs.declared.part.Part.{Part}
use Rattle.pipe_parts.specs.Parts.{IsPart, AreParts}
use Rattle.round_end.specs.declared.outcome.Outcome.TheVariants.{Made, Ended}
use Rattle.pipe_work.specs.declared.kept.Kept.{Kept}
use Rattle.pipe_work.specs.declared.passed.Passed.{Passed}
use Rattle.pipe_work.specs.Kept.{IsKept, IsMade}
use Rattle.pipe_work.specs.Passed.{IsPassed}
use Rattle.pipe_work.specs.Pipe.{StepsSeen}

-- the types that the steps give
abbrev pub types_behind : StepsSeen → List Ty
types_behind pipe = through exact_steps (joins_of pipe.tables) pipe.steps pipe.types

-- the breaker may take a piece that is stored with these types
pub over_piece : (own pipe : StepsSeen) (piece : Piece) → own ≡ pipe → IsBreakerOver (types_behind own) own.breaker → IsStored (types_behind pipe) piece → IsBreakerOver (types_of piece.batch) own.breaker
over_piece own pipe piece same over stored = subst (λ (types : List Ty). IsBreakerOver types own.breaker) (ap types_behind same ∙ sym stored.typed) over

-- outcomes of what the steps give for a piece
pub made_of : (pipe : StepsSeen) (input : Stream Row) (passed : Passed) (kept : Kept) → IsPassed pipe input passed → passed.piece.end ≡ None → IsKept pipe.breaker passed kept → IsMade pipe input (Made kept)
made_of pipe input passed kept is none own = record { passed = Made passed; worked = (is, none); kept = own }

pub ended_of : (pipe : StepsSeen) (input : Stream Row) (passed : Passed) (kept : Kept) (fault : Fault) → IsPassed pipe input passed → passed.piece.end ≡ Some fault → IsKept pipe.breaker passed kept → IsMade pipe input (Ended kept fault)
ended_of pipe input passed kept fault is some own = record { passed = Ended passed fault; worked = (is, some); kept = (own, refl) }

-- parts of all pieces, by those so far and whatever will be the parts of what is left
abbrev pub AreSoFar : Breaker → List Piece → List Part → List Piece → Type 0
AreSoFar breaker all parts left = (more : List Part) → AreParts breaker left more → AreParts breaker all (parts ++ more)

pub so_far_more : (breaker : Breaker) (all : List Piece) (parts new : List Part) (piece : Piece) (part : Part) (left rest : List Piece) → left ≡ piece ∷ rest → new ≡ parts ++ part ∷ [] → IsPart breaker piece part → AreSoFar breaker all parts left
    → AreSoFar breaker all new rest
so_far_more breaker all parts new piece part left rest step is own so_far = λ more are.
    let next : AreParts breaker left (part ∷ more) = subst (λ (pieces : List Piece). AreParts breaker pieces (part ∷ more)) (sym step) (own, are) in
    let same : parts ++ part ∷ more ≡ new ++ more = sym (append_assoc parts (part ∷ []) more) ∙ ap (λ (front : List Part). front ++ more) (sym is) in
    subst (AreParts breaker all) same (so_far (part ∷ more) next)

pub so_far_whole : (breaker : Breaker) (all : List Piece) (parts : List Part) (left : List Piece) → length left ≡ 0 → AreSoFar breaker all parts left → AreParts breaker all parts
so_far_whole breaker all parts [] none so_far = subst (AreParts breaker all) (append-nil parts) (so_far [] tt)
so_far_whole breaker all parts (piece ∷ left) none so_far = absurd (omega (arith, none))

-- parts of some pieces and of others
pub parts-append : (breaker : Breaker) (pieces others : List Piece) (parts more : List Part) → AreParts breaker pieces parts → AreParts breaker others more → AreParts breaker (pieces ++ others) (parts ++ more)
parts-append breaker [] others [] more first second = second
parts-append breaker [] others (part ∷ parts) more first second = absurd first
parts-append breaker (piece ∷ pieces) others [] more first second = absurd first
parts-append breaker (piece ∷ pieces) others (part ∷ parts) more first second = (first.0, parts-append breaker pieces others parts more first.1 second)
