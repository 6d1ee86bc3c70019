-- The pieces of an input, one after the other, and what comes behind them.
use Rattle.std.proofs.Common.{◌≡◌, ◌∙◌, List, [], ◌∷◌, ◌++◌, Bool, None, length, map, refl, sym, ap, subst, append_assoc}
use Rattle.std.specs.Prelude.{IsSome}
use Rattle.std.proofs.lemmas.List.{append-nil, length-map, map-append}
use Rattle.sub_types.specs.Stream.{Stream, followed_by, glue}
use Rattle.sub_types.proofs.StreamLaws.{glue-append}
use Rattle.plan_denote.specs.Rows.{Row}
use Rattle.batch.specs.declared.batch.Piece.{Piece}
use Rattle.batch.specs.BatchRows.{stream_of_piece}
use Rattle.plan_pipes.specs.declared.pipe.Step.{Step}
use Rattle.plan_pipes.specs.RowMeaning.{Table, row_steps}
use Rattle.plan_pipes.specs.Run.{stepped, through}
use Rattle.plan_pipes.specs.Pieces.{Agree, AgreeIn, finished, marks_in, marks_of, marks_through, merged, merged_each, piece_steps, piece_through, table_at}
use Rattle.plan_pipes.proofs.PiecesLaws.{finished-same, marks_through-append, pieces_combine}
use Rattle.pipe_steps.specs.Marked.{HaveMarks, rows_at}
use Rattle.pipe_steps.specs.Run.{AreThrough}
use Rattle.pipe_steps.proofs.FinishLaws.{nothing_more, pushed_end}

-- ---- marks that agree

agree_in-merged : (all : List Table) (marks others more : List Bool) → AgreeIn all marks others → AgreeIn all (merged marks more) (merged others more)
agree_in-merged [] marks others more agree = tt
agree_in-merged (table ∷ all) marks others more agree = λ used. ap (λ one. merged one more) (agree used)

agree-merged : (tables : List Table) (steps : List Step) (marks others : List (List Bool)) (pieces : List (Stream Row))
    → Agree tables steps marks others → Agree tables steps (merged_each marks (marks_through tables steps pieces)) (merged_each others (marks_through tables steps pieces))
agree-merged tables [] marks others pieces agree = tt
agree-merged tables (step ∷ steps) [] others pieces agree = absurd agree
agree-merged tables (step ∷ steps) (own ∷ more) [] pieces agree = absurd agree
agree-merged tables (step ∷ steps) (own ∷ more) (other ∷ rest) pieces agree =
    (agree_in-merged (table_at tables step) own other (marks_in (table_at tables step) pieces) agree.0, agree-merged tables steps more rest (map (stepped piece_steps tables step) pieces) agree.1)

agree_in-then : (all : List Table) (a b c : List Bool) → AgreeIn all a b → AgreeIn all b c → AgreeIn all a c
agree_in-then [] a b c first then' = tt
agree_in-then (table ∷ all) a b c first then' = λ used. first used ∙ then' used

agree-then : (tables : List Table) (steps : List Step) (a b c : List (List Bool)) → Agree tables steps a b → Agree tables steps b c → Agree tables steps a c
agree-then tables [] a b c first next = tt
agree-then tables (step ∷ steps) [] b c first next = absurd first
agree-then tables (step ∷ steps) (x ∷ a) [] c first next = absurd first
agree-then tables (step ∷ steps) (x ∷ a) (y ∷ b) [] first next = absurd next
agree-then tables (step ∷ steps) (x ∷ a) (y ∷ b) (z ∷ c) first next = (agree_in-then (table_at tables step) x y z first.0 next.0, agree-then tables steps a b c first.1 next.1)

agree_in-same : (all : List Table) (marks : List Bool) → AgreeIn all marks marks
agree_in-same [] marks = tt
agree_in-same (table ∷ all) marks = λ _. refl

agree-same : (tables : List Table) (steps : List Step) (marks : List (List Bool)) → HaveMarks tables steps marks → Agree tables steps marks marks
agree-same tables [] marks have = tt
agree-same tables (step ∷ steps) [] have = absurd have
agree-same tables (step ∷ steps) (own ∷ more) have = (agree_in-same (table_at tables step) own, agree-same tables steps more have.1)

-- ---- marks of which none is set

rows_in : (all : List Table) (pieces : List (Stream Row)) → length (marks_in all pieces) ≡ rows_at all
unfolding marks_of
rows_in [] pieces = refl
rows_in (table ∷ more) pieces = length-map table.right.rows _

pub have_marks : (tables : List Table) (steps : List Step) (pieces : List (Stream Row)) → HaveMarks tables steps (marks_through tables steps pieces)
have_marks tables [] pieces = tt
have_marks tables (step ∷ steps) pieces = (rows_in (table_at tables step) pieces, have_marks tables steps (map (stepped piece_steps tables step) pieces))

-- ---- piece by piece

pub through_none : (tables : List Table) (steps : List Step) (input : List Piece) (marks : List (List Bool)) (out : List Piece) → marks ≡ marks_through tables steps [] → HaveMarks tables steps marks → out ≡ [] → AreThrough tables steps input input marks out
through_none tables steps input marks out none have empty = record {
  done = [];
  input = refl;
  given = ap (map stream_of_piece) empty;
  have = have;
  marked = subst (λ first. Agree tables steps first marks) none (agree-same tables steps marks have);
}

module _ (tables : List Table) (steps : List Step) (input rest : List Piece) (marks : List (List Bool)) (out : List Piece) (way : AreThrough tables steps input rest marks out) where
  abbrev own : Stream Row → Stream Row
  own = piece_through tables steps

  module _ (piece passed : Piece) (rest' : List Piece) (out' : List Piece) (is : rest ≡ piece ∷ rest') (pushed : out' ≡ out ++ passed ∷ []) (stream : stream_of_piece passed ≡ own (stream_of_piece piece)) where
    abbrev done' : List (Stream Row)
    done' = way.done ++ stream_of_piece piece ∷ []

    input_more : map stream_of_piece input ≡ done' ++ map stream_of_piece rest'
    input_more = way.input ∙ ap (λ all. way.done ++ map stream_of_piece all) is ∙ sym (append_assoc way.done (stream_of_piece piece ∷ []) (map stream_of_piece rest'))

    given_more : map stream_of_piece out' ≡ map own done'
    given_more =
        ap (map stream_of_piece) pushed ∙ map-append stream_of_piece out (passed ∷ []) ∙ (λ i. way.given i ++ stream i ∷ [])
        ∙ sym (map-append own way.done (stream_of_piece piece ∷ []))

    pub through_more : (marks' : List (List Bool)) → passed.end ≡ None → (passed.end ≡ None → Agree tables steps (merged_each marks (marks_through tables steps (stream_of_piece piece ∷ []))) marks') → HaveMarks tables steps marks' → AreThrough tables steps input rest' marks' out'
    through_more marks' none marked have = record {
      done = done';
      input = input_more;
      given = given_more;
      have = have;
      marked = subst (λ first. Agree tables steps first marks') (sym (marks_through-append tables steps way.done (stream_of_piece piece ∷ [])))
          (agree-then tables steps _ _ marks' (agree-merged tables steps (marks_through tables steps way.done) marks (stream_of_piece piece ∷ []) way.marked) (marked none));
    }

    -- where a piece ends in a fault, those behind it don't matter
    pub through_early : IsSome passed.end → glue (map stream_of_piece out') ≡ through row_steps tables steps (glue (map stream_of_piece input))
    through_early some =
        let behind = map own (map stream_of_piece rest') ++ finished tables steps (marks_through tables steps (map stream_of_piece input)) in
        let whole : map own (map stream_of_piece input) ++ finished tables steps (marks_through tables steps (map stream_of_piece input)) ≡ map stream_of_piece out' ++ behind =
        ap (λ all. map own all ++ finished tables steps (marks_through tables steps (map stream_of_piece input))) input_more
        ∙ ap (λ all. all ++ finished tables steps (marks_through tables steps (map stream_of_piece input))) (map-append own done' (map stream_of_piece rest') ∙ ap (λ all. all ++ map own (map stream_of_piece rest')) (sym given_more))
        ∙ append_assoc (map stream_of_piece out') (map own (map stream_of_piece rest')) (finished tables steps (marks_through tables steps (map stream_of_piece input))) in
        sym
        (pieces_combine tables steps (map stream_of_piece input) ∙ ap glue whole ∙ glue-append (map stream_of_piece out') behind
        ∙ nothing_more (glue (map stream_of_piece out')) (glue behind) (pushed_end out out' passed pushed some))

  -- behind the last piece
  pub through_all : (last out' : List Piece) → rest ≡ [] → glue (map stream_of_piece last) ≡ glue (finished tables steps marks) → out' ≡ out ++ last → glue (map stream_of_piece out') ≡ through row_steps tables steps (glue (map stream_of_piece input))
  through_all last out' none finish both =
      let all : map stream_of_piece input ≡ way.done = way.input ∙ ap (λ more. way.done ++ map stream_of_piece more) none ∙ append-nil way.done in
      let before = map own way.done in
      ap (λ pieces. glue (map stream_of_piece pieces)) both ∙ ap glue (map-append stream_of_piece out last) ∙ glue-append (map stream_of_piece out) (map stream_of_piece last)
      ∙ (λ i. followed_by (glue (way.given i)) (finish i))
      ∙ ap (λ more. followed_by (glue before) (glue more)) (sym (finished-same tables steps (marks_through tables steps way.done) marks way.marked))
      ∙ sym (glue-append before (finished tables steps (marks_through tables steps way.done)))
      ∙ sym (pieces_combine tables steps way.done)
      ∙ ap (λ pieces. through row_steps tables steps (glue pieces)) (sym all)
