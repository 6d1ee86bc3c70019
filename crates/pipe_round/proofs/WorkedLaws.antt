-- What the workers made of the pieces, in the order of their numbers.
use Rattle.std.proofs.Common.{◌≡◌, ◌∙◌, ℕ, suc, ◌+◌, List, [], ◌∷◌, Option, Some, None, length, map, slice_get, sym, ap, subst, arith}
use Rattle.std.specs.Borrow.{Bor}
use Rattle.std.specs.List.{All, range_with_len}
use Rattle.std.proofs.lemmas.List.Elements.{All-nil, All-cons, All-head, All-tail}
use Rattle.sub_types.specs.Stream.{Stream}
use Rattle.plan_denote.specs.Rows.{Row}
use Rattle.batch.specs.BatchRows.{stream_of_piece}
use Rattle.pipe_steps.specs.Marked.{HaveMarks}
use Rattle.pipe_steps.specs.Tables.{tables_seen}
use Rattle.pipe_labour.specs.declared.item.Item.{Item}
use Rattle.round_end.specs.declared.outcome.Outcome.{Outcome}
use Rattle.round_end.specs.declared.outcome.Outcome.TheVariants.{Made, Ended, ReadFault}
use Rattle.piece_source.specs.Pieces.{IsPieceAt}
use Rattle.pipe_work.specs.declared.held.HeldPiece.{HeldPiece}
use Rattle.pipe_work.specs.declared.kept.Kept.{Kept}
use Rattle.pipe_work.specs.declared.passed.Passed.{Passed}
use Rattle.pipe_work.specs.Held.{IsMadeOf}
use Rattle.pipe_work.specs.Kept.{IsMade}
use Rattle.pipe_work.specs.Pipe.{StepsSeen}
use Rattle.pipe_round.specs.Settled.{IsSettled, AreSettled, HasMarks}
use Rattle.pipe_round.specs.Worked.{IsMadeAt}
use Rattle.pipe_round.proofs.SettledLaws.{passed_ended, passed_made}

not_none : {P : Type 0} (pieces : List P) (number : ℕ) (piece : P) → slice_get pieces number ≡ Some piece → slice_get pieces number ≡ None → ⊥
not_none pieces number piece is none = absurd (cc)

one_there : {P : Type 0} (pieces : List P) (number : ℕ) (piece other : P) → slice_get pieces number ≡ Some piece → slice_get pieces number ≡ Some other → other ≡ piece
one_there pieces number piece other is also = cc

module _ (pipe : StepsSeen) where
  pub settled_of : (piece : Stream Row) (out : Outcome Kept) → IsMade pipe piece out → IsSettled pipe piece out
  settled_of piece (Made one) worked = worked
  settled_of piece (Ended one fault) worked = worked
  settled_of piece ReadFault worked = tt

  own_marks : (one : Passed) (own : Kept) → HaveMarks (tables_seen pipe.tables) pipe.steps one.marks.items → own.marks.items ≡ one.marks.items → HaveMarks (tables_seen pipe.tables) pipe.steps own.marks.items
  own_marks one own have same = subst (HaveMarks (tables_seen pipe.tables) pipe.steps) (sym same) have

  marks_in : (piece : Stream Row) (out : Outcome Kept) → IsSettled pipe piece out → HasMarks pipe out
  marks_in piece (Made own) settled = let of = passed_made pipe piece settled.passed own settled.worked settled.kept in own_marks of.0 own of.1.have of.3.1
  marks_in piece (Ended own fault) settled = let of = passed_ended pipe piece settled.passed own fault settled.worked settled.kept in own_marks of.0 own of.1.have of.3.1
  marks_in piece ReadFault settled = tt

  -- each outcome has marks for each step
  pub settled_marks : (input : List (Stream Row)) (outs : List (Item (Outcome Kept))) → AreSettled pipe input (map (λ (out : Item (Outcome Kept)). out.value) outs) → All (λ (out : Item (Outcome Kept)). HasMarks pipe out.value) outs
  settled_marks input [] settled = All-nil (λ (out : Item (Outcome Kept)). HasMarks pipe out.value)
  settled_marks [] (out ∷ outs) settled = absurd settled
  settled_marks (piece ∷ input) (out ∷ outs) settled =
      All-cons (λ (one : Item (Outcome Kept)). HasMarks pipe one.value) out outs (marks_in piece out.value settled.0) (settled_marks input outs settled.1)

  module _ (pieces : List HeldPiece) where
    abbrev stream_in : HeldPiece → Stream Row
    stream_in held = stream_of_piece held.piece

    made_lent : (held : HeldPiece) (lent : Bor HeldPiece) (out : Outcome Kept) → lent.now ≡ held → held.pipe.now ≡ pipe → IsMade lent.now.pipe.now (stream_of_piece lent.now.piece) out → IsMade pipe (stream_in held) out
    made_lent held lent out same of made =
        subst (λ (q : StepsSeen × Stream Row). IsMade q.0 q.1 out) (λ i. ((ap (λ (one : HeldPiece). one.pipe.now) same ∙ of) i, stream_in (same i))) made

    made_of : (held : HeldPiece) (number : ℕ) (given : Option (Bor HeldPiece)) (out : Outcome Kept) → slice_get pieces number ≡ Some held → held.pipe.now ≡ pipe → IsPieceAt pieces number given → IsMadeOf given out → IsMade pipe (stream_in held) out
    made_of held number None out is of at made = absurd (not_none pieces number held is at)
    made_of held number (Some lent) out is of at made = made_lent held lent out (one_there pieces number held lent.now is at) of made

    settled_from : (start : ℕ) (rest : List HeldPiece) (outs : List (Item (Outcome Kept))) → ((j : ℕ) → slice_get rest j ≡ slice_get pieces (start + j)) → All (λ (held : HeldPiece). held.pipe.now ≡ pipe) rest
        → map (λ (out : Item (Outcome Kept)). out.number) outs ≡ range_with_len start (length rest) → All (λ (out : Item (Outcome Kept)). IsMadeAt pieces out.number out.value) outs
        → AreSettled pipe (map stream_in rest) (map (λ (out : Item (Outcome Kept)). out.value) outs)
    settled_from start [] [] at of numbers made = tt
    settled_from start [] (out ∷ outs) at of numbers made = absurd (cc)
    settled_from start (held ∷ rest) [] at of numbers made = absurd (cc)
    settled_from start (held ∷ rest) (out ∷ outs) at of numbers made =
        let P : Item (Outcome Kept) → Type 0 = λ one. IsMadeAt pieces one.number one.value in
        let Q : HeldPiece → Type 0 = λ one. one.pipe.now ≡ pipe in
        let number : out.number ≡ start = cc in
        let later : map (λ (one : Item (Outcome Kept)). one.number) outs ≡ range_with_len (start + 1) (length rest) = cc in
        let first : start ≡ start + 0 = omega arith in
        let here : slice_get pieces out.number ≡ Some held = ap (slice_get pieces) (number ∙ first) ∙ sym (at 0) in
        let one = All-head P out outs made in (
          settled_of (stream_in held) out.value (made_of held out.number one.given out.value here (All-head Q held rest of) one.at one.made_of),
          settled_from (start + 1) rest outs (λ j. let next : start + suc j ≡ start + 1 + j = omega arith in at (suc j) ∙ ap (slice_get pieces) next) (All-tail Q held rest of) later (All-tail P out outs made),
        )

    -- each piece in order, with what was made of it
    pub settled_all : (outs : List (Item (Outcome Kept))) → All (λ (held : HeldPiece). held.pipe.now ≡ pipe) pieces → map (λ (out : Item (Outcome Kept)). out.number) outs ≡ range_with_len 0 (length pieces)
        → All (λ (out : Item (Outcome Kept)). IsMadeAt pieces out.number out.value) outs → AreSettled pipe (map stream_in pieces) (map (λ (out : Item (Outcome Kept)). out.value) outs)
    settled_all outs of numbers made = settled_from 0 pieces outs (λ j. let same : j ≡ 0 + j = omega arith in ap (slice_get pieces) same) of numbers made
