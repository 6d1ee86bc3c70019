-- A piece goes from step to step.
use Rattle.std.proofs.Common.{◌≡◌, ◌∙◌, ℕ, zero, suc, ◌+◌, ◌<◌, ◌≤◌, List, [], ◌∷◌, ◌++◌, Bool, None, length, take, drop, get_or, set, refl, sym, ap, subst, append_assoc, add-one, arith}
use Rattle.std.proofs.lemmas.List.{append-nil, take_more_set, drop-set-lt, drop_all, take_all}
use Rattle.std.proofs.Math.Seq.{drop-cons}
use Rattle.sub_types.specs.declared.kind.Ty.{Ty}
use Rattle.sub_types.specs.Stream.{Stream}
use Rattle.plan_denote.specs.Rows.{Row}
use Rattle.batch.specs.declared.batch.Piece.{Piece}
use Rattle.batch.specs.BatchRows.{stream_of_piece, types_of}
use Rattle.plan_pipes.specs.declared.pipe.Step.{Step}
use Rattle.plan_pipes.specs.RowMeaning.{Table}
use Rattle.plan_pipes.specs.Run.{stepped, through}
use Rattle.plan_pipes.specs.Pieces.{AgreeIn, Agree, marks_in, marks_through, merged, merged_each, piece_steps, piece_through, table_at}
use Rattle.pipe_types.specs.Exact.{exact_steps}
use Rattle.pipe_types.specs.Over.{AreStepsOver}
use Rattle.pipe_steps.specs.declared.built.BuiltTable.{BuiltTable}
use Rattle.pipe_steps.specs.Marked.{HaveMarks, rows_at}
use Rattle.pipe_steps.specs.Ready.{IsFit, IsReady}
use Rattle.pipe_steps.specs.Tables.{joins_of, tables_seen}
use Rattle.pipe_steps.specs.Through.{AreMarked, IsThrough}
use Rattle.pipe_steps.proofs.StepLaws.{end_before, ready_for}

-- ---- marks of each step

-- as many marks as steps
pub many_marks : (tables : List Table) (steps : List Step) (marks : List (List Bool)) → HaveMarks tables steps marks → length marks ≡ length steps
many_marks tables [] [] have = refl
many_marks tables [] (own ∷ more) have = absurd have
many_marks tables (step ∷ steps) [] have = absurd have
many_marks tables (step ∷ steps) (own ∷ more) have = ap suc (many_marks tables steps more have.1)

-- those of the step at a place
pub marks_at : (tables : List Table) (steps : List Step) (marks : List (List Bool)) (at : ℕ) (step : Step) (own : List Bool) → at < length steps → HaveMarks tables steps marks → length (get_or marks at own) ≡ rows_at (table_at tables (get_or steps at step))
marks_at tables [] marks at step own within have = absurd (omega arith)
marks_at tables (one ∷ steps) [] at step own within have = absurd have
marks_at tables (one ∷ steps) (here ∷ more) zero step own within have = have.0
marks_at tables (one ∷ steps) (here ∷ more) (suc at) step own within have = marks_at tables steps more at step own (omega arith) have.1

-- other marks of as many rows at one place
pub marks_set : (tables : List Table) (steps : List Step) (marks : List (List Bool)) (at : ℕ) (new own : List Bool) → length new ≡ length (get_or marks at own) → HaveMarks tables steps marks → HaveMarks tables steps (set marks at new)
marks_set tables [] [] at new own long have = tt
marks_set tables [] (here ∷ more) at new own long have = absurd have
marks_set tables (step ∷ steps) [] at new own long have = absurd have
marks_set tables (step ∷ steps) (here ∷ more) zero new own long have = (long ∙ have.0, have.1)
marks_set tables (step ∷ steps) (here ∷ more) (suc at) new own long have = (have.0, marks_set tables steps more at new own long have.1)

-- ---- the way through the steps

pub through_none : (tables : List BuiltTable) (steps : List Step) (old : List (List Bool)) (input : Piece) → AreStepsOver (joins_of tables) (types_of input.batch) steps → IsReady steps input.batch → HaveMarks (tables_seen tables) steps old → IsThrough tables steps old input 0 old input
through_none tables steps old input over ready have = record {
  over = over;
  ready = ready;
  stream = refl;
  types = refl;
  have = have;
  same = refl;
  marked = λ _ later are. are;
}

-- the tail of what is left
tail_same : {A : Type 0} (xs ys : List A) (at : ℕ) → drop at xs ≡ drop at ys → drop (suc at) xs ≡ drop (suc at) ys
tail_same xs ys at same = sym (next xs at) ∙ ap (drop 1) same ∙ next ys at
  where
    next : {A : Type 0} (xs : List A) (at : ℕ) → drop 1 (drop at xs) ≡ drop (suc at) xs
    next xs zero = refl
    next [] (suc at) = refl
    next (x ∷ xs) (suc at) = next xs at

-- what is left at a place is what stands there, and the rest
pub left_at : {A : Type 0} (xs : List A) (at : ℕ) (x : A) → at < length xs → x ≡ get_or xs at x → drop at xs ≡ x ∷ drop (at + 1) xs
left_at xs at x within is =
    let after : suc at ≡ at + 1 = sym (add-one at) in
    drop-cons xs at x within ∙ ap (λ one. one ∷ drop (suc at) xs) (sym is) ∙ ap (λ n. x ∷ drop n xs) after

module _ (tables : List BuiltTable) (steps : List Step) (old : List (List Bool)) (input : Piece) (at : ℕ) (marks : List (List Bool)) (piece : Piece) (way : IsThrough tables steps old input at marks piece)
    (within : at < length steps) (step : Step) (is : step ≡ get_or steps at step) where
  abbrev rest : List Step
  rest = drop (at + 1) steps

  abbrev seen : List Table
  seen = tables_seen tables

  left : drop at steps ≡ step ∷ rest
  left = left_at steps at step within is

  pub step_marks : (own : List Bool) → own ≡ get_or marks at own → length own ≡ rows_at (table_at seen step)
  step_marks own is_own = ap length is_own ∙ marks_at seen steps marks at step own within way.have ∙ ap (λ one. rows_at (table_at seen one)) (sym is)

  -- one step more
  module _ (own new : List Bool) (is_own : own ≡ get_or marks at own) (long : length new ≡ length own) (out : Piece)
      (stream : stream_of_piece out ≡ stepped piece_steps seen step (stream_of_piece piece)) (types : types_of out.batch ≡ stepped exact_steps (joins_of tables) step (types_of piece.batch)) (fit : IsFit out.batch)
      (marked : out.end ≡ None → AgreeIn (table_at seen step) (merged own (marks_in (table_at seen step) (stream_of_piece piece ∷ []))) new) where
    abbrev now : List (List Bool)
    now = set marks at new

    enough : at < length marks
    enough = omega (arith, within, many_marks seen steps marks way.have)

    no_end : out.end ≡ None → piece.end ≡ None
    no_end none = end_before seen step (stream_of_piece piece) (sym (ap (λ (s : Stream Row). s.end) stream) ∙ none)

    old_left : drop at old ≡ own ∷ drop (at + 1) old
    old_left =
        let after : suc at ≡ at + 1 = sym (add-one at) in
        sym way.same ∙ left_at marks at own enough is_own ∙ ap (λ all. own ∷ all) (ap (λ n. drop n marks) (sym after) ∙ tail_same marks old at way.same ∙ ap (λ n. drop n old) after)

    first_marks : piece.end ≡ None → (later : List (List Bool)) → AreMarked tables (step ∷ rest) (own ∷ drop (at + 1) old) piece later → AreMarked tables steps old input (take at marks ++ later)
    first_marks none later are =
        let P : List Step → Type 0 = λ all. AreMarked tables all (drop at old) piece later in
        let Q : List (List Bool) → Type 0 = λ all. AreMarked tables (step ∷ rest) all piece later in
        way.marked none later (subst P (sym left) (subst Q (sym old_left) are))

    later_marks : out.end ≡ None → (later : List (List Bool)) → AreMarked tables rest (drop (at + 1) old) out later → AreMarked tables steps old input (take (at + 1) now ++ later)
    later_marks none later are =
        let P : Stream Row → Type 0 = λ s. Agree seen rest (merged_each (drop (at + 1) old) (marks_through seen rest (s ∷ []))) later in
        let Q : List (List Bool) → Type 0 = AreMarked tables steps old input in
        subst Q (sym (ap (λ front. front ++ later) (take_more_set marks at new enough) ∙ append_assoc (take at marks) (new ∷ []) later))
        (first_marks (no_end none) (new ∷ later) (marked none, subst P stream are))

    pub through_more : IsThrough tables steps old input (at + 1) now out
    through_more = record {
      over = let P : List Ty → Type 0 = λ types. AreStepsOver (joins_of tables) types rest in subst P (sym types) (subst (AreStepsOver (joins_of tables) (types_of piece.batch)) left way.over).1;
      ready = ready_for rest out.batch fit;
      stream = ap (piece_through seen rest) stream ∙ ap (λ all. piece_through seen all (stream_of_piece piece)) (sym left) ∙ way.stream;
      types = ap (through exact_steps (joins_of tables) rest) types ∙ ap (λ all. through exact_steps (joins_of tables) all (types_of piece.batch)) (sym left) ∙ way.types;
      have = marks_set seen steps marks at new own (long ∙ ap length is_own) way.have;
      same =
          let after : suc at ≡ at + 1 = sym (add-one at) in
          let before : at < at + 1 = omega arith in
          drop-set-lt (at + 1) marks at new before ∙ ap (λ n. drop n marks) (sym after) ∙ tail_same marks old at way.same ∙ ap (λ n. drop n old) after;
      marked = later_marks;
    }

-- behind all steps
module _ (tables : List BuiltTable) (steps : List Step) (old : List (List Bool)) (input : Piece) (at : ℕ) (marks : List (List Bool)) (piece : Piece) (way : IsThrough tables steps old input at marks piece) (all : length steps ≤ at) where
  no_more : drop at steps ≡ []
  no_more = drop_all at steps all

  pub all_marked : piece.end ≡ None → AreMarked tables steps old input marks
  all_marked none =
      let P : List Step → Type 0 = λ more. AreMarked tables more (drop at old) piece [] in
      let whole : length marks ≤ at = omega (arith, all, many_marks (tables_seen tables) steps marks way.have) in
      subst (AreMarked tables steps old input) (append-nil (take at marks) ∙ take_all at marks whole) (way.marked none [] (subst P (sym no_more) tt))
