-- What the pieces that count give, one after the other, what comes behind them, and what is kept of both.
use Rattle.std.proofs.Common.{◌≡◌, ◌∙◌, List, [], ◌∷◌, ◌++◌, inl, inr, Bool, Option, Some, None, map, refl, sym, ap, subst, append_assoc}
use Rattle.std.specs.Prelude.{IsSome}
use Rattle.std.specs.List.{All}
use Rattle.std.proofs.lemmas.List.{append-nil, map-append}
use Rattle.std.proofs.lemmas.Simd.{map-map}
use Rattle.std.proofs.lemmas.List.Elements.{All-nil, All-cons, All-append}
use Rattle.sub_types.specs.declared.fault.Fault.{Fault}
use Rattle.sub_types.specs.Stream.{Stream, followed_by, glue}
use Rattle.sub_types.proofs.StreamLaws.{glue-append}
use Rattle.plan_denote.specs.Rows.{Row}
use Rattle.batch.specs.declared.batch.Piece.{Piece}
use Rattle.batch.specs.BatchRows.{stream_of_piece}
use Rattle.plan_pipes.specs.declared.pipe.Step.{Step}
use Rattle.plan_pipes.specs.RowMeaning.{Table, row_steps}
use Rattle.plan_pipes.specs.Run.{stepped, through}
use Rattle.plan_pipes.specs.Pieces.{Agree, AgreeIn, finished, marks_in, marks_through, merged, merged_each, piece_steps, piece_through, table_at}
use Rattle.plan_pipes.proofs.PiecesLaws.{finished-same, marks_through-append, pieces_combine}
use Rattle.pipe_types.specs.Exact.{exact_steps}
use Rattle.pipe_steps.specs.Behind.{IsStored}
use Rattle.pipe_steps.specs.Tables.{joins_of, tables_seen}
use Rattle.pipe_work.specs.Kept.{Part, AreParts, ArePartsOf}
use Rattle.pipe_work.specs.declared.kept.Kept.{Kept}
use Rattle.pipe_work.specs.declared.passed.Passed.{Passed}
use Rattle.pipe_work.specs.Pipe.{StepsSeen}
use Rattle.pipe_work.proofs.KeptLaws.{parts-append}
use Rattle.pipe_round.specs.Merged.{merged_all}
use Rattle.pipe_round.specs.Settled.{ArePut, AreKept, HavePut}

-- ---- marks that agree

agree_in-both : (all : List Table) (a b c d : List Bool) → AgreeIn all a b → AgreeIn all c d → AgreeIn all (merged a c) (merged b d)
agree_in-both [] a b c d first second = tt
agree_in-both (table ∷ all) a b c d first second = λ used. λ i. merged (first used i) (second used i)

agree-both : (tables : List Table) (steps : List Step) (a b c d : List (List Bool)) → Agree tables steps a b → Agree tables steps c d → Agree tables steps (merged_each a c) (merged_each b d)
agree-both tables [] a b c d first second = tt
agree-both tables (step ∷ steps) [] b c d first second = absurd first
agree-both tables (step ∷ steps) (x ∷ a) [] c d first second = absurd first
agree-both tables (step ∷ steps) (x ∷ a) (y ∷ b) [] d first second = absurd second
agree-both tables (step ∷ steps) (x ∷ a) (y ∷ b) (z ∷ c) [] first second = absurd second
agree-both tables (step ∷ steps) (x ∷ a) (y ∷ b) (z ∷ c) (w ∷ d) first second = (agree_in-both (table_at tables step) x y z w first.0 second.0, agree-both tables steps a b c d first.1 second.1)

agree_in-same : (all : List Table) (marks : List Bool) → AgreeIn all marks marks
agree_in-same [] marks = tt
agree_in-same (table ∷ all) marks = λ _. refl

agree-through : (tables : List Table) (steps : List Step) (pieces : List (Stream Row)) → Agree tables steps (marks_through tables steps pieces) (marks_through tables steps pieces)
agree-through tables [] pieces = tt
agree-through tables (step ∷ steps) pieces = (agree_in-same (table_at tables step) (marks_in (table_at tables step) pieces), agree-through tables steps (map (stepped piece_steps tables step) pieces))

-- ---- nothing comes behind a fault

nothing_behind : (rows : List Row) (end : Option Fault) (rest : Stream Row) → IsSome end → followed_by (record { rows = rows; end = end }) rest ≡ record { rows = rows; end = end }
nothing_behind rows None rest some = absurd (cc)
nothing_behind rows (Some fault) rest some = refl

module _ (pipe : StepsSeen) where
  abbrev own : Stream Row → Stream Row
  own = piece_through (tables_seen pipe.tables) pipe.steps

  abbrev given : Passed → Stream Row
  given one = stream_of_piece one.piece

  -- ---- the pieces, without a fault and with one

  given_all : (input : List (Stream Row)) (made : List Passed) → ArePut pipe input made None → map own input ≡ map given made
  given_all [] [] put = refl
  given_all [] (one ∷ made) put = absurd put
  given_all (piece ∷ input) [] put = absurd put
  given_all (piece ∷ input) (one ∷ made) put = elim put.1 [
    | inl next ↦ (λ i. sym put.0.stream i ∷ given_all input made next.1 i)
    | inr last ↦ absurd (let none = last.2 in cc)
  ]

  given_some : (input : List (Stream Row)) (made : List Passed) (end : Option Fault) → IsSome end → ArePut pipe input made end → (behind : List (Stream Row)) → glue (map own input ++ behind) ≡ glue (map given made)
  given_some [] [] None some put behind = absurd (cc)
  given_some [] [] (Some fault) some put behind = absurd put
  given_some [] (one ∷ made) end some put behind = absurd put
  given_some (piece ∷ input) [] end some put behind = absurd put
  given_some (piece ∷ input) (one ∷ made) end some put behind =
      let rest = glue (map own input ++ behind) in
      elim put.1 [
        | inl next ↦ (λ i. followed_by (sym put.0.stream i) (given_some input made end some next.1 behind i))
        | inr last ↦
            ap (λ s. followed_by s rest) (sym put.0.stream)
            ∙ nothing_behind (given one).rows (given one).end rest last.0
            ∙ sym (nothing_behind (given one).rows (given one).end (glue (map given made)) last.0)
      ]

  -- ---- the marks of all pieces

  marked_all : (before input : List (Stream Row)) (made : List Passed) (marks : List (List Bool)) → ArePut pipe input made None
      → Agree (tables_seen pipe.tables) pipe.steps (marks_through (tables_seen pipe.tables) pipe.steps before) marks
      → Agree (tables_seen pipe.tables) pipe.steps (marks_through (tables_seen pipe.tables) pipe.steps (before ++ input)) (merged_all marks (map (λ (one : Passed). one.marks.items) made))
  marked_all before [] [] marks put agree = subst (λ all. Agree (tables_seen pipe.tables) pipe.steps (marks_through (tables_seen pipe.tables) pipe.steps all) marks) (sym (append-nil before)) agree
  marked_all before [] (one ∷ made) marks put agree = absurd put
  marked_all before (piece ∷ input) [] marks put agree = absurd put
  marked_all before (piece ∷ input) (one ∷ made) marks put agree =
      let tables = tables_seen pipe.tables in
      let all : List (List Bool) = merged_all (merged_each marks one.marks.items) (map (λ (one : Passed). one.marks.items) made) in
      elim put.1 [
        | inl next ↦
            let so_far : Agree tables pipe.steps (marks_through tables pipe.steps (before ++ piece ∷ [])) (merged_each marks one.marks.items) =
            subst (λ first. Agree tables pipe.steps first (merged_each marks one.marks.items)) (sym (marks_through-append tables pipe.steps before (piece ∷ [])))
            (agree-both tables pipe.steps (marks_through tables pipe.steps before) marks (marks_through tables pipe.steps (piece ∷ [])) one.marks.items agree (put.0.marked next.0)) in
            subst (λ pieces. Agree tables pipe.steps (marks_through tables pipe.steps pieces) all) (append_assoc before (piece ∷ []) input)
            (marked_all (before ++ piece ∷ []) input made (merged_each marks one.marks.items) next.1 so_far)
        | inr last ↦ absurd (let none = last.2 in cc)
      ]

  -- ---- all together

  pieces_given : (made : List Passed) → map stream_of_piece (map (λ (one : Passed). one.piece) made) ≡ map given made
  pieces_given made = map-map stream_of_piece (λ (one : Passed). one.piece) made

  stream_some : (input : List (Stream Row)) (made : List Passed) (end : Option Fault) (out : List Piece) → IsSome end → ArePut pipe input made end → out ≡ map (λ one. one.piece) made
      → glue (map stream_of_piece out) ≡ through row_steps (tables_seen pipe.tables) pipe.steps (glue input)
  stream_some input made end out some put is =
      let tables = tables_seen pipe.tables in
      ap (λ pieces. glue (map stream_of_piece pieces)) is ∙ ap glue (pieces_given made)
      ∙ sym (given_some input made end some put (finished tables pipe.steps (marks_through tables pipe.steps input)))
      ∙ sym (pieces_combine tables pipe.steps input)

  stream_all : (input : List (Stream Row)) (made : List Passed) (none marks : List (List Bool)) (out last : List Piece) → ArePut pipe input made None
      → none ≡ marks_through (tables_seen pipe.tables) pipe.steps [] → marks ≡ merged_all none (map (λ one. one.marks.items) made)
      → glue (map stream_of_piece last) ≡ glue (finished (tables_seen pipe.tables) pipe.steps marks) → out ≡ map (λ one. one.piece) made ++ last
      → glue (map stream_of_piece out) ≡ through row_steps (tables_seen pipe.tables) pipe.steps (glue input)
  stream_all input made none marks out last put first merged finish is =
      let tables = tables_seen pipe.tables in
      let front = map given made in
      let behind = finished tables pipe.steps (marks_through tables pipe.steps input) in
      let agree : Agree tables pipe.steps (marks_through tables pipe.steps input) marks =
      subst (Agree tables pipe.steps (marks_through tables pipe.steps input)) (sym (merged ∙ ap (λ start. merged_all start (map (λ (one : Passed). one.marks.items) made)) first))
      (marked_all [] input made (marks_through tables pipe.steps []) put (agree-through tables pipe.steps [])) in
      ap (λ pieces. glue (map stream_of_piece pieces)) is
      ∙ ap glue (map-append stream_of_piece (map (λ (one : Passed). one.piece) made) last ∙ ap (λ pieces. pieces ++ map stream_of_piece last) (pieces_given made))
      ∙ glue-append front (map stream_of_piece last)
      ∙ ap (followed_by (glue front)) (finish ∙ ap glue (sym (finished-same tables pipe.steps (marks_through tables pipe.steps input) marks agree)))
      ∙ sym (glue-append front behind)
      ∙ ap (λ pieces. glue (pieces ++ behind)) (sym (given_all input made put))
      ∙ sym (pieces_combine tables pipe.steps input)

  stored_all : (input : List (Stream Row)) (made : List Passed) (end : Option Fault) → ArePut pipe input made end → All (IsStored (through exact_steps (joins_of pipe.tables) pipe.steps pipe.types)) (map (λ (one : Passed). one.piece) made)
  stored_all input [] end put = All-nil (IsStored (through exact_steps (joins_of pipe.tables) pipe.steps pipe.types))
  stored_all [] (one ∷ made) end put = absurd put
  stored_all (piece ∷ input) (one ∷ made) end put =
      let P : Piece → Type 0 = IsStored (through exact_steps (joins_of pipe.tables) pipe.steps pipe.types) in
      elim put.1 [
        | inl next ↦ All-cons P one.piece (map (λ (one : Passed). one.piece) made) put.0.stored (stored_all input made end next.1)
        | inr last ↦ All-cons P one.piece (map (λ (one : Passed). one.piece) made) put.0.stored (subst (λ (more : List Passed). All P (map (λ (one : Passed). one.piece) more)) (sym last.1) (All-nil P))
      ]

  -- ---- what is kept

  abbrev part_in : Kept → Part
  part_in own = own.part

  parts_kept : (made : List Passed) (kept : List Kept) → AreKept pipe.breaker made kept → AreParts pipe.breaker (map (λ (one : Passed). one.piece) made) (map part_in kept)
  parts_kept [] [] are = tt
  parts_kept [] (own ∷ kept) are = absurd are
  parts_kept (one ∷ made) [] are = absurd are
  parts_kept (one ∷ made) (own ∷ kept) are = (are.0.0, parts_kept made kept are.1)

  marks_kept : (made : List Passed) (kept : List Kept) → AreKept pipe.breaker made kept → map (λ (own : Kept). own.marks.items) kept ≡ map (λ (one : Passed). one.marks.items) made
  marks_kept [] [] are = refl
  marks_kept [] (own ∷ kept) are = absurd are
  marks_kept (one ∷ made) [] are = absurd are
  marks_kept (one ∷ made) (own ∷ kept) are = λ i. are.0.1 i ∷ marks_kept made kept are.1 i

  pub parts_some : (input : List (Stream Row)) (kept : List Kept) (end : Option Fault) (out : List Part) → IsSome end → HavePut pipe input kept end → out ≡ map (λ (one : Kept). one.part) kept
      → ArePartsOf pipe.breaker (through exact_steps (joins_of pipe.tables) pipe.steps pipe.types) (through row_steps (tables_seen pipe.tables) pipe.steps (glue input)) out
  parts_some input kept end out some put is =
      let pieces = map (λ (one : Passed). one.piece) put.made in
      record {
        pieces = pieces;
        kept = subst (AreParts pipe.breaker pieces) (sym is) (parts_kept put.made kept put.are_kept);
        stored = stored_all input put.made end put.put;
        rows_are = stream_some input put.made end pieces some put.put refl;
      }

  pub parts_all : (input : List (Stream Row)) (kept : List Kept) (none marks : List (List Bool)) (out last : List Part) → HavePut pipe input kept None
      → none ≡ marks_through (tables_seen pipe.tables) pipe.steps [] → marks ≡ merged_all none (map (λ (one : Kept). one.marks.items) kept)
      → ArePartsOf pipe.breaker (through exact_steps (joins_of pipe.tables) pipe.steps pipe.types) (glue (finished (tables_seen pipe.tables) pipe.steps marks)) last → out ≡ map (λ (one : Kept). one.part) kept ++ last
      → ArePartsOf pipe.breaker (through exact_steps (joins_of pipe.tables) pipe.steps pipe.types) (through row_steps (tables_seen pipe.tables) pipe.steps (glue input)) out
  parts_all input kept none marks out last put first merged behind is =
      let P : Piece → Type 0 = IsStored (through exact_steps (joins_of pipe.tables) pipe.steps pipe.types) in
      let pieces = map (λ (one : Passed). one.piece) put.made in
      record {
        pieces = pieces ++ behind.pieces;
        kept = subst (AreParts pipe.breaker (pieces ++ behind.pieces)) (sym is)
            (parts-append pipe.breaker pieces behind.pieces (map part_in kept) last (parts_kept put.made kept put.are_kept) behind.kept);
        stored = All-append P pieces behind.pieces (stored_all input put.made None put.put) behind.stored;
        rows_are = stream_all input put.made none marks (pieces ++ behind.pieces) behind.pieces put.put first (merged ∙ ap (merged_all none) (marks_kept put.made kept put.are_kept)) behind.rows_are refl;
      }
